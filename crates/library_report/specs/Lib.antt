-- A report as plain numbers, and what the exports over them promise.
pub mod Layout
pub mod Memory
pub mod Run

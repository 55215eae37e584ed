-- A sender's memory, what its calls answer and leave, and what each export promises.
pub mod Layout
pub mod Memory
pub mod Exports

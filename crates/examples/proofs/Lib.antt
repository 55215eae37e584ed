-- P1 to P12 of document 01.
pub mod Examples

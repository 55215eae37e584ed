-- The library's numbers for refusals, kinds and flags.
pub mod Codes

-- The bits of two payloads that differ.
pub mod Errors

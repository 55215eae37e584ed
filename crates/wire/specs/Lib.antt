-- What is in the bytes that the programs of tools/compare are asked and answer with.
pub mod Bytes

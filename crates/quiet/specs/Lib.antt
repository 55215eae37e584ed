-- Quiet samples one after the other, and what the crate's own functions make of many at once.
pub mod Walk
pub mod Parts

-- What receive does with the bytes that it reads: samples, offers, lines, and what its functions promise.
pub mod Pairs
pub mod Text
pub mod Hear
pub mod Parts
pub mod Caller
-- the same by the rules since a fresh start
pub mod Rules

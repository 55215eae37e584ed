-- The house format: digits, lines, samples, the texts of a bad line and of a failure, and the rule of acceptance.
pub mod Digits
pub mod Line
pub mod Samples
pub mod BadLine
pub mod Accept
pub mod Trouble

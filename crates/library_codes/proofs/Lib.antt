-- The laws of the codes, and that each promise leaves one answer.
pub mod Codes
pub mod OnlyAnswer

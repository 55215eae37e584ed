-- Which of the symbols given for a frame is wrong, and how.
pub mod Offender

-- What the fixed frames have to do with the bursts, and that each promise leaves one answer.
pub mod Repeats
pub mod OnlyAnswer

-- The laws of the bit count, with instances, and that its promise leaves one answer. Assumes nothing.
pub mod Counts
pub mod Laws
pub mod Instances
pub mod OnlyAnswer

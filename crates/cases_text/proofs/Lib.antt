-- The laws of words, and that each promise of this crate leaves one answer.
pub mod Words
pub mod OnlyAnswer
-- small instances: what the laws ask can be met
pub mod Instances

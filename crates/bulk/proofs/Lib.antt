-- The laws of tap sums side by side. Assumes nothing.
-- a row of zeros
pub mod Still
-- each promise fixes its answer
pub mod OnlyAnswer
-- instances that meet the laws' hypotheses
pub mod Instances

-- The laws of marks. Assumes nothing.
-- each burst's signs written out
pub mod Sides
-- the marks of a row
pub mod RowMarks
-- a match has its burst's sides
pub mod SignLaw
-- small values have no gain
pub mod Faint
-- each promise fixes its answer
pub mod OnlyAnswer
-- instances that meet the laws' hypotheses
pub mod Instances

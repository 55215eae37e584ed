-- The laws of quiet samples. Assumes nothing.
-- quiet samples one after the other
pub mod Leading
-- what a control that goes on is known to be, and that it stays so while samples are counted
pub mod GoesOn
-- n quiet steps in one: counted, or searched at the last
pub mod QuietSteps
-- the turn of many samples
pub mod Turns
-- n rests of a wait in one
pub mod Rests
-- of the samples that only set the timer the last one counts
pub mod LastTimer
-- what a row and its marks tell
pub mod Rows
-- a block by these laws
pub mod BlockLaws
-- a block's marked samples one after the other
pub mod Midway
-- the whole row
pub mod WalkLaws
-- and no sample of it from which on a frame is due
pub mod BeforeDue
-- each promise fixes its answer
pub mod OnlyAnswer
-- instances that meet the laws' hypotheses
pub mod Instances
pub mod RowInstances
pub mod BlockInstances

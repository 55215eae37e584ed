-- The laws of the receiver's record and of its calls. Assumes nothing.
-- places written as a part of a list
pub mod WrittenPart
-- a place brought back into its ring
pub mod Wrap
-- the ring's reader, and what a store does to it
pub mod Readers
-- the window that keeps each sample twice
pub mod Halves
-- what a fit record is known to be
pub mod Fitness
-- what a sample leaves of the window's halves
pub mod HalvesKept
-- a call by what applies
pub mod CallCases
-- what a step leaves
pub mod StepTurn
-- what a reply hands to a search
pub mod ReplySearch
-- each promise fixes its answer
pub mod OnlyAnswer
-- a stretch of samples, one by one
pub mod FeedSteps
-- many samples stored
pub mod StoredMany
-- a walk feeds as single samples do
pub mod WalkFeeds
-- the filtered values of a stretch in a row
pub mod RowLaid
-- a stretch whole
pub mod StretchFeeds
-- small instances of the laws of the step: what they ask can be met
pub mod StepInstances
-- and of a stretch
pub mod StretchInstances

-- The laws of the receiver's control. Assumes nothing.
-- a candidate by cases
pub mod HeldOrNot
-- a fit control, clause by clause
pub mod Clauses
-- what a fit control is known to be
pub mod Fitness
-- readers that agree lead to the same search
pub mod SearchSame
-- an age rises by one at most
pub mod AgeInPass
-- what a comparison tells
pub mod Compared
-- a search with nothing to do
pub mod Silent
-- what a sample comes to, by the wait
pub mod SampleByWait
-- what comes before a search leaves a fit control fit
pub mod TurnFits
-- each promise fixes its answer
pub mod OnlyAnswer

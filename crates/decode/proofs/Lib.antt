-- The laws of `decode`: that each promise leaves one answer, the examples of document 01, and what a match of the correlator is and what follows from it. Assumes nothing.
pub mod OnlyAnswer
-- what `all` answers, by a list's places
pub mod ByPlaces
-- readers that agree, and six bursts from one spread
pub mod Same
-- P3 to P11
pub mod Worked
-- what the laws ask of a gain and a shift
pub mod Scale
-- order in either direction
pub mod Direction
-- the six bursts in a row
pub mod Table
-- and their signs
pub mod Signs
-- what is near is finite
pub mod Near
-- where a match's value cannot lie
pub mod Clear
-- a match's value is on its side of the shift
pub mod Side
-- how far two values lie apart
pub mod Gaps
-- how far a match's value lies from the shift
pub mod Widths
-- what a match is
pub mod Opened
-- eight values in range
pub mod RangeFacts
-- values near a target of each of two bursts
pub mod Places
-- at most one burst matches
pub mod OneMatch
-- no two kinds match one symbol apart
pub mod Apart
-- a match's diff
pub mod Diff
-- a match's gain and shift
pub mod MatchFacts
-- floats that are halves of whole numbers
pub mod Halves
-- an offset changes the shift alone
pub mod OffsetFree
-- instances that meet the laws' hypotheses
pub mod Instances

-- The laws of `plain`. Assumes nothing.
-- samples by their numbers, and F of the whole recording
pub mod SampleLaws
-- no candidate and no wait depends on the carrier timer
pub mod PursuitLaws
-- the sample at which a wait ends
pub mod DueLaws
-- the list by the rules, one sample further
pub mod SampleStep
-- and from a sample on
pub mod RestLaws
-- the list, offer by offer
pub mod ListProgress
-- and in the rooms
pub mod RoomLaws
-- the list by the calls that are made for it
pub mod CallList
-- the slow engine's list is the first receiver's
pub mod SlowEqualsFirst
-- and none of the calls is refused
pub mod AllAdmitted
-- where the list ends
pub mod ListShape
-- the whole call, case by case
pub mod ListingCases
-- the limits of 12 and 13
pub mod Limits
-- one answer alone meets the promise
pub mod OnlyAnswer

-- The laws of listening.
-- the list of offers
pub mod Listener
-- the record and the rules list the same
pub mod Agreement
-- no reply is owed between samples
pub mod OwedReply
-- the list from its first sample on
pub mod FirstSample
-- a stretch of samples is the part of the list that it feeds
pub mod Stretches
-- a stretch and its reply as the code settles them
pub mod Settlement
-- each promise fixes its answer
pub mod OnlyAnswer
-- small instances of what the laws ask
pub mod Instances

-- The laws of receiving.
-- bytes in pairs
pub mod BytePairs
-- lines in a room
pub mod Lines
-- how many samples go in
pub mod FedCount
-- a stretch of samples
pub mod FedStretch
-- a stretch and an empty call as the code settles them
pub mod Settlement
-- all samples, stretch by stretch
pub mod Progress
-- the bytes of the samples that go in
pub mod ConsumedBytes
-- a call with bytes
pub mod HearPromise
-- a refused one
pub mod RefusedHear
-- reads of any sizes
pub mod AnyReads
-- reads of the program's sizes
pub mod WholeReads
-- the next call, by the rules
pub mod NextCall
-- the whole input
pub mod ReceiveRun
-- each promise fixes its answer
pub mod OnlyAnswer
-- small instances of what the laws ask
pub mod Instances
pub mod RefusalInstances

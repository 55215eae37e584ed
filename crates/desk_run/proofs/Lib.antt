-- The theorems over all calls of the desk.
-- what the functions do is the machine's run
pub mod Refused
pub mod SeatRun
pub mod Ties
pub mod Sessions
-- "A seat's answers depend only on calls to that seat since its last open"
pub mod Isolation
-- from a fresh desk
pub mod OpenSeats
pub mod NeverUnfit
-- a single sample is a stretch of one
pub mod OneSample
-- instances of what the theorems ask
pub mod Worked
pub mod Instances

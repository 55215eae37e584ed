-- What the proofs of the desk's exports share, and that each promise fixes its answer.
-- a seat of the desk that the memory makes, and the calls on it
pub mod InSeat
-- the entry
pub mod Entry
-- the receiver's calls at a seat
pub mod Given
-- an open and a close
pub mod OpenAndClose
-- the listing
pub mod SeatTests
pub mod Listed
-- each promise fixes its answer
pub mod OnlyAnswer

-- What the proofs of the desk's functions share, and that each promise fixes its answer.
-- a receiver out of the desk's memory and back
pub mod Lends
-- a constant above 1,023 in a walk
pub mod BigLit
-- the calls by their tests
pub mod SeatLaws
pub mod ListLaws
-- each promise fixes its answer
pub mod OnlyAnswer

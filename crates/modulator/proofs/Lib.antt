-- The laws that the proofs of `modulator` cite. What follows from its calls is in `modulator_laws`.
-- what a fit record is known to be
pub mod Fitness
-- what a call comes to, case by case
pub mod Cases
pub mod FrameCases
-- what a frame makes of the record
pub mod Frames
-- a read as the code does it: one piece after the other, into the caller's room
pub mod Room
pub mod Drain

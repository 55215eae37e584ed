-- The laws of `supplier`.
-- two samples
pub mod SameSample
-- a part beside the stretch, sample by sample
pub mod Front
-- the first line of a text, by its first 97 bytes
pub mod FirstLine
-- the transmission beside the stretch: a part of it, and part by part
pub mod OnePartBeside
pub mod PartByPart
-- the three ways of a check
pub mod CheckLaws
-- each answer exactly where its sentence holds
pub mod CheckExactly
-- what `send` writes is accepted
pub mod SendAccepted
-- that the promise leaves one answer
pub mod OnlyAnswer
-- a whole case for each answer
pub mod Instances

-- Document 02 i): the offer that a replay opens with, by the full run.
-- the first offer from a sample on
pub mod FullRun
-- the last pause that ends before it
pub mod Pauses
-- the part after that pause
pub mod Part
-- the call
pub mod Open

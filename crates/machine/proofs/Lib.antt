-- The laws of runs. Assumes nothing.
-- a run in two parts
pub mod Parts
-- machines that simulate each other
pub mod Simulation

-- Machines: what a run over a list of calls is.
pub mod Runs

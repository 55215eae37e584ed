-- How symbols go through the filter's window, what the crate's function promises of it, and what its own functions make.
pub mod Pulse
pub mod Promises
pub mod Phases

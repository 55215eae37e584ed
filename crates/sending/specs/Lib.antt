-- What the program `send` sends: by its text alone, call by call, and over all of its reads.
pub mod Text
pub mod Calls
pub mod Run

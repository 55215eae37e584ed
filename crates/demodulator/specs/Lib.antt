-- The receiver's rules for one call: how window and ring are read, what makes a record fit, and what each call answers and leaves.
pub mod Spans
pub mod Record
pub mod Fit
pub mod Parts
pub mod Calls
pub mod Singles
pub mod Feed
pub mod Steps
pub mod Stretch
pub mod Lent

-- The sender's rules for one call: what a frame's symbols are, what makes a record fit, and what each call answers and leaves.
pub mod Paper
pub mod Frame
-- what a call comes to, for a record and for the rules over all calls
pub mod Control
pub mod Fit
pub mod Outcome
-- the record
pub mod Record
pub mod Calls

-- The laws of symbols on their way through the window.
-- the values that enter the window, and what they leave
pub mod Pulses
pub mod Stream
-- the next place of a ring
pub mod Places
-- what the filter sees of the window
pub mod View
-- the table of a rate
pub mod Tables
-- a window that holds pulses only
pub mod PhaseSums
-- what is ready is sent, what is not is given back
pub mod Ready
-- the promise fixes its answer
pub mod OnlyAnswer
-- what the laws ask can be met
pub mod Instances

-- The desk over lists of calls.
-- one seat
pub mod Seat
-- the eight of them
pub mod Desk
-- a seat's own calls among all, and their answers
pub mod OwnCalls
-- the functions called one after the other
pub mod Session

-- What the desk's calls promise: document 02 n), by the sentence.
-- the record
pub mod Desk
-- which calls go to a receiver
pub mod Passage
-- a receiver that is lent
pub mod Lent
-- the calls for a seat
pub mod Calls
-- the listing
pub mod Listing

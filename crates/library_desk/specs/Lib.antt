-- What the desk's exports promise, over any memory.
-- the memory, and the desk that it makes
pub mod Memory
-- what is no desk
pub mod Passage
-- the listing, as the exports tell it
pub mod Listing
-- the calls
pub mod Calls

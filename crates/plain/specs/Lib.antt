-- Document 02 g): the list of offers of a recording and a list of replies, and what the functions of the slow engine promise.
pub mod List
pub mod Values
pub mod SearchPart
pub mod Rest
pub mod Listing

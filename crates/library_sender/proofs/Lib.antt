-- From the record's promises to the exports', and that each export has one answer.
pub mod Promises
pub mod LeftPlaces
pub mod OnlyAnswer

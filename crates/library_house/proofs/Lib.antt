-- What the tests of the exports show, the laws, and that each export has one answer.
pub mod Tests
pub mod Laws
pub mod OnlyAnswer

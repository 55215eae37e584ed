-- That each promise of this crate leaves one answer.
pub mod OnlyAnswer

-- That each promise of this crate leaves one answer, and the laws of parts and of bytes that its functions lean on.
pub mod OnlyAnswer
pub mod Slices
pub mod Bytes
-- small instances: what the laws ask can be met
pub mod Instances

-- The frames whose symbols are fixed.
pub mod Frames

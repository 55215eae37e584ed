-- A receiver's numbers: what they mean, those of a control, and which controls they can say.
pub mod Layout
pub mod Within
pub mod Promises

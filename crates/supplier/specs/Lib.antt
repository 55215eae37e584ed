-- What the checker of a transmitter box says: by the words of request m, and part by part.
pub mod Check
pub mod Meanings
pub mod Parts

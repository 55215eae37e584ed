-- Document 02 h): what a pause is, and an answer at a later sample. Assumes nothing.
-- the same at a later sample
pub mod Later
-- calls of zeros, and how many are a pause
pub mod Silence

-- The sender's rules over all calls since the start, and the record's run over the same calls.
pub mod Stream
pub mod Rules
-- demand 2
pub mod Run
pub mod Represents
-- the bound of every sample
pub mod Loudness
-- calls by their kind
pub mod Kinds
-- the wish for a frame, the padding, and the frame samples unread
pub mod Wish
pub mod Padding
pub mod Unread
-- what is told once
pub mod Reports
-- the end of transmission
pub mod EndFrame
-- reads in pieces
pub mod Pieces
-- what the number of an end covers
pub mod EndCovers

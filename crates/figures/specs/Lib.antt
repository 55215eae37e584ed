-- Document 02 l): a month's figures, by the recordings' full lists of offers.
pub mod Totals
pub mod FullList
pub mod Answers
-- a turn of listening
pub mod Turn

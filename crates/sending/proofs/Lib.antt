-- The laws of `sending`.
-- the lines of a text
pub mod Lines
-- samples as bytes
pub mod Bytes
-- what the definitions come to
pub mod Parts
-- what is to be written lies within the bytes
pub mod Lengths
-- a stream's samples, stretch by stretch
pub mod Stream
-- that each promise leaves one answer
pub mod OnlyAnswer
-- a part by the sender's rules
pub mod Frames
pub mod OnePart
-- what becomes of the line at hand with a read's bytes, and a turn
pub mod LineAtHand
pub mod Turns
-- which turns are refused, and what a refused one leaves
pub mod RefusedTurn
-- how many of a read's bytes a turn takes
pub mod BytesTaken
-- what the calls from some place on come to
pub mod RestOfRun
-- the program over all of its reads
pub mod SendRun
-- what the program says when it stops, by what is told of its calls
pub mod LastWords
-- every text, and what is written so far
pub mod AnyText
-- a text of good lines, and how much is written
pub mod GoodLines
-- texts that meet what the laws ask
pub mod Instances

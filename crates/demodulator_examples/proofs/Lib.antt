-- Samples that meet what the theorems on the receiver ask, and what the theorems then say of them. Assumes nothing.
-- a caller that accepts at once
pub mod Fed
-- one fed sample, and many
pub mod Steps
-- the first sample at which a kind matches
pub mod Take
-- what is heard, from a table
pub mod Table
pub mod Fits
-- a burst, and the frame that falls due
pub mod Burst
-- demand 3 on 72 samples and zeros
pub mod Sketch
-- three lists of samples
pub mod OneBurst
pub mod EarlierLarger
pub mod LaterSmaller
-- their due frames: the rule, its corner, a replacement
pub mod DueFrames
-- the same as a caller sees it
pub mod AsCalls
pub mod Seen
-- a burst at 24 kHz
pub mod OneBurst24
pub mod Seen24
-- the corner, and a mark, at 24 kHz
pub mod Sketch24
pub mod EarlierLarger24
pub mod LaterSmaller24
pub mod CornerSeen24
-- a switch of kind without a wait
pub mod EarlierSmaller
pub mod KindSwitch
-- a list given twice
pub mod Again
-- its second frame
pub mod SecondFrame
-- document 01's impostors
pub mod Impostors

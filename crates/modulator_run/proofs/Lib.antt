-- What is proved of the sender over whole runs, of the rules and of the record. Assumes nothing.
-- what enters, by the symbols and by the samples
pub mod Entered
-- a stream with more symbols
pub mod Longer
-- the record after one more frame
pub mod NextFrame
-- one call, the record's and the rules'
pub mod Step
-- demand 2
pub mod SenderRun
-- a call of the rules, case by case
pub mod EachCall
-- no call is refused with 1 or 15
pub mod NeverUnfit
-- a refused call changes nothing
pub mod Refused
-- how large a sample is
pub mod Phases
pub mod Within
-- a list by its last call
pub mod LastCall
-- what one kind of call starts and another stops
pub mod Lasting
-- when an end is owed
pub mod Owed
-- when it is told
pub mod ReportParts
pub mod Told
pub mod EndOnce
pub mod EndAsBefore
pub mod EndCovers
-- idle, once
pub mod IdleOnce
-- the wish for a frame, the padding, and the frame samples unread
pub mod Wish
pub mod Padding
pub mod Unread
-- the end of transmission
pub mod Flush
pub mod EndFrame
-- reads in pieces
pub mod AnyPieces
-- the places that a rate does not use
pub mod UnusedUnread
-- all of these at each rate
pub mod AtEachRate
-- examples, computed
pub mod Worked
-- instances that meet what the laws ask
pub mod RunInstances
pub mod EndInstances
pub mod ReportInstances
pub mod WishInstances

-- What follows from the sender's calls. Assumes nothing.
-- what a test picks
pub mod Picked
-- that each promise leaves one answer
pub mod Papers
pub mod OnlyAnswer
-- which symbol is wrong, and that no other frame is refused than before
pub mod FirstOffender
pub mod SymbolsAsBefore
-- when a frame is refused for its burst
pub mod WrongBurst
-- what holds in every case of a call
pub mod EachCase
-- a fit record stays fit
pub mod Sizes
pub mod OutcomeLimits
pub mod Kept
pub mod FitAgain
-- its rate stays what it is
pub mod RateKept
-- the places that a rate does not use
pub mod UnusedPlaces
-- an empty room, the wish that stays, and what is told once
pub mod Once
-- a transmission read in two pieces
pub mod Shares
pub mod Pieces
-- small records that meet what the laws ask
pub mod Instances
pub mod FrameInstances
-- each limit of a record, met and passed by one
pub mod Limits

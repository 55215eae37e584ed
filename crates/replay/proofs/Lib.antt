-- The laws of a replay opened in the middle.
-- what listening keeps, and what holds of each offer that it lists
pub mod Kept
pub mod EachOffer
-- offers after a pause
pub mod LaterOffers
-- the first offer from a sample on
pub mod FirstOffer
-- "it must be the full run's"
pub mod TailAnswer
-- an offer's numbers
pub mod OfferBounds
-- a turn of listening to the part
pub mod OneTurn
-- what the call puts together
pub mod Refusals
pub mod PartAnswer
-- the promise fixes its answer
pub mod OnlyAnswer
-- what they ask is met
pub mod Instances

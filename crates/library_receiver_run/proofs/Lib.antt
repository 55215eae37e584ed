-- The laws of the receiver's exports over any list of calls on one memory. Assumes nothing.
-- what the calls keep within the fields' types
pub mod Holdable
-- which answers a call can bring
pub mod Answers
-- a refused call leaves every lent place
pub mod Untouched
-- every list of calls
pub mod MemoryRun
-- the exports' promises, from a fresh receiver
pub mod ExportsRun
-- the offers that codes and numbers tell
pub mod Offers
-- instances
pub mod Instances
-- an offer that is read
pub mod OfferInstances

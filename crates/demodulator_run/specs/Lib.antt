-- The receiver's rules over all calls since the start, what is asked of them, and the record's run over the same calls.
pub mod Filter
pub mod Rules
-- demand 3
pub mod Marks
pub mod Demands
pub mod Exact
-- demand 2
pub mod Run
pub mod Represents
pub mod Stretch
pub mod Calls
-- demand 3 at the caller's side
pub mod CallerSees
pub mod OfferReports
-- the layout before document 02 f)
pub mod OldLayout

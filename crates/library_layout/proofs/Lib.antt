-- There and back, which numbers are a receiver's, and that each promise leaves one answer. Assumes nothing.
-- a control's numbers mean that control
pub mod ControlBack
-- numbers come back as they were
pub mod NumbersBack
-- which numbers are a receiver's
pub mod RecordCode
-- each promise fixes its answer
pub mod OnlyAnswer
-- instances
pub mod Instances

-- What follows for a month of recordings, and for reports that are merged. Assumes nothing.
-- the order of gains, and reports in one
pub mod GainSingle
pub mod GainOrder
pub mod ReportSums
-- a run of recordings
pub mod OneAdded
pub mod Months
pub mod AnyOrder
pub mod ShortMonth
-- merging
pub mod MergeLaws
pub mod MergeThree
pub mod MergeEmpty
pub mod MonthParts
-- each offer at one age and one reply
pub mod OfferAges
pub mod AgesCounted
-- the carrier at an offer's sample
pub mod TimerOutlasts
-- limits, and what meets the theorems' needs
pub mod Limits
pub mod Instances

-- the numbers of a report, place by place
pub mod NumberPlaces
-- each call on memory, case by case
pub mod MemoryCases
-- there and back
pub mod Back
-- one answer, and the memory that it leaves, meets each promise
pub mod OnlyAnswer
-- a refused call leaves the memory
pub mod Untouched
-- a report laid out answers as the report itself
pub mod LaidReport
-- any calls, one after the other
pub mod ReportRun
-- instances
pub mod Instances

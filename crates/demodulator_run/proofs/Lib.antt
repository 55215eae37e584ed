-- What is proved of the receiver over whole runs: demand 3 of the rules, then demand 2, of the rules and the record. Assumes nothing.
-- the kinds in the order of the search
pub mod KindOrder
-- the pass over them in closed form
pub mod Pass
-- a log with one mark more
pub mod Log
-- what a log tells of each frame and each take
pub mod Account
-- the invariant
pub mod Phase
-- a first take keeps it
pub mod Begin
-- a candidate that stays or is taken anew
pub mod Hold
-- one that fails
pub mod Fail
-- a frame that falls due
pub mod FallenDue
-- a search
pub mod SearchKeeps
-- a sample and a reply
pub mod TurnKeeps
-- the count
pub mod Count
-- a call
pub mod CallKeeps
-- all calls
pub mod Run
-- the due sample, from the invariant
pub mod Rule
-- the span and the age, from the invariant
pub mod Span
-- demand 3 over p
pub mod Demand
-- what can be heard in range
pub mod EarLaws
-- samples of 16 bits
pub mod Sixteen
-- a search's marks
pub mod SearchExact
-- a sample's and a reply's marks
pub mod StepExact
-- the log's marks
pub mod LogExact
-- a switch of kind
pub mod Switch
-- a due frame's window
pub mod Window
-- demand 3 at a rate
pub mod DemandAt
-- at each of the two
pub mod DemandEachRate
-- one more sample
pub mod Causal
-- F of samples of 16 bits
pub mod InRange
-- the control stays fit in a run
pub mod RunFits
-- the record's rings after a sample
pub mod Stored
-- when the record is fit
pub mod RecordFit
-- readers that agree
pub mod SameWindow
-- one call, the record's and the rules'
pub mod Step
-- all calls
pub mod Whole
-- single calls since a fresh start
pub mod SinglesRun
-- a stretch of samples in one call
pub mod StretchAgrees
-- demand 2
pub mod ReceiverRun
-- neither 1 nor 15
pub mod NeverUnfit
-- a list of calls as single ones
pub mod Singles
-- an offer and the wait that it ends
pub mod OfferSeen
-- a take and its mark
pub mod TakenSeen
-- demand 3 at the caller's side
pub mod CallerSees
-- the wait that a search sets, and the candidate that it takes
pub mod SearchSets
-- a search as a caller sees it
pub mod SearchMoment
-- the wait that an offer ends
pub mod OfferWait
-- what an offer reports
pub mod OfferReports
-- a refused call changes nothing
pub mod Refused
-- no call changes the rate
pub mod RateKept
-- the layout before document 02 f), and that every answer is its
pub mod LayoutsAlike
pub mod AsBefore
-- what is past a rate's places is not read
pub mod UnusedUnread
-- what a caller sees, at each of the two rates
pub mod AtEachRate
-- examples, computed
pub mod Worked
-- instances that meet what the laws ask
pub mod RunInstances

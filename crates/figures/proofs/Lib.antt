-- The laws of `figures`.
-- totals, one by one, and two reports in one

pub mod TotalLaws
pub mod JoinLaws
-- what a search, a sample and a reply do to the carrier timer, and a stretch of samples
pub mod CarrierTimer
pub mod RecordTimer
pub mod HeldStretch
pub mod OffStretch
pub mod RestStretch
pub mod KnownCarrier
-- figures after a list of offers, part by part
pub mod AfterLaws
pub mod OfferPlaces
-- a turn, and a recording turn by turn
pub mod TurnLaws
pub mod CountedRun
pub mod FigureParts
pub mod RecordingLaws
-- the figures by the rules, and that they are fit
pub mod OfferGains
pub mod RulesAgree
-- adding
pub mod AddLaws
-- each promise fixes what is answered
pub mod OnlyAnswer

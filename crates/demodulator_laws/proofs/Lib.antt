-- What follows from the receiver's calls, taken one by one. Assumes nothing.
-- a candidate fit but for its age
pub mod Grown
-- a search leaves a fit control fit, but for one age
pub mod SearchFits
-- so do a wait that goes on, and a reply
pub mod WaitFits
-- what a stored sample leaves
pub mod StoredFits
-- an accepted call leaves a fit record fit
pub mod SampleFits
pub mod FitAgain
pub mod FedFits
-- at each of the two rates
pub mod FitEachRate
-- what is past a rate's places is neither tested nor changed
pub mod UnusedPlaces
-- what one sample comes to
pub mod SampleComes
-- a refused stretch changes nothing
pub mod RefusedFeed
-- one answer fits each call over a lent window and ring
pub mod LentAnswers
-- small instances of the laws of the record, of the search and of the calls: what they ask can be met
pub mod ExampleBurst
pub mod RecordInstances
pub mod SearchInstances
pub mod CallInstances
pub mod FitInstances
pub mod FeedInstances
pub mod HalvesInstances
pub mod RateInstances
-- each limit of a record, met and passed by one
pub mod Limits
pub mod RingLimits
pub mod Limits24

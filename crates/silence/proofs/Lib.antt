-- Document 02 h): silence clears the slate. Assumes nothing.
-- what one search can leave
pub mod SearchBounds
-- what remains while nothing matches
pub mod Remains
-- F of zeros
pub mod ZeroF
-- a match needs both signs among the last five values
pub mod FiveAlike
-- what single calls keep, all calls keep
pub mod CallsKeep
-- what silence leaves
pub mod SilentRun
-- the same, d samples later
pub mod LaterControl
-- F after silence
pub mod LaterF
-- calls after silence
pub mod LaterSingle
pub mod LaterCalls
-- a pause clears the history
pub mod PauseClears
-- silence clears the slate: of the rules and of the record
pub mod SilenceClears
-- the same with the numbers of 48 and 24 kHz
pub mod AtEachRate
-- a frame that is cut off, and a pause
pub mod CutOff
-- a timer lasts to its end
pub mod Lasts
-- a pause that is too short
pub mod TooShort
-- both, on samples
pub mod Instances

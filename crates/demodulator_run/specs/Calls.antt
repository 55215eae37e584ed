-- Every call of the receiver, a stretch of samples among them: the rules and the record as two machines over one list of calls. Assumes nothing.
use Rattle.std.specs.Prelude.{List, [], map, ◌∷◌, ◌++◌, ℕ, ℤ, take, Float}
use Rattle.machine.specs.Runs.{Machine}
use Rattle.shaping.specs.Rate.{Rate, rate_of}
use Rattle.demodulator.specs.declared.SoftDemodulator.{SoftDemodulator}
use Rattle.demodulator.specs.Calls.{Paper}
use Rattle.demodulator.specs.Feed.{Stretch, fed_into}
use Rattle.demodulator_run.specs.Rules.{Single, sample, History, Said, single}
use Rattle.demodulator_run.specs.Run.{left_at, said_by, Callable}
use Rattle.demodulator_run.specs.Stretch.{Sixteen, stretched}

pub data Call : Type 0 where
  -- a sample, a reply or a question for the carrier
  one : Single → Call
  -- samples in one call, with the room for symbols that is lent with it
  stretch : List ℤ → List Float → Call

-- what a call is answered with, how many samples of a stretch went in, and what its room then holds
pub record Told : Type 0 where
  pub answer : Paper
  pub fed : ℕ
  pub room : List Float

abbrev pub told_one : Said → Told
told_one s = record { answer = s.answer; fed = 0; room = s.room }

abbrev pub told_stretch : {S : Type 0} → Stretch S → Told
told_stretch f = record { answer = f.answer; fed = f.fed; room = f.room }

-- ---- the rules
module _ (table : List Float) (p : ℕ) where
  unfoldable pub history_next : History → Call → History
  history_next h (one c) = (single table p h c).history
  history_next h (stretch xs room) = (stretched table p h xs room).state

  unfoldable pub told_to : History → Call → Told
  told_to h (one c) = told_one (single table p h c).said
  told_to h (stretch xs room) = told_stretch (stretched table p h xs room)

abbrev pub rules : Rate → Machine History Call Told
rules R = record { next = history_next R.taps R.p; says = told_to R.taps R.p }

-- ---- the record, at a rate
unfoldable pub record_next : Rate → SoftDemodulator → Call → SoftDemodulator
record_next R m (one c) = (left_at R m c).demodulator
record_next R m (stretch xs room) = (fed_into R m xs room).state

unfoldable pub told_by : Rate → SoftDemodulator → Call → Told
told_by R m (one c) = told_one (said_by (left_at R m c))
told_by R m (stretch xs room) = told_stretch (fed_into R m xs room)

-- at its own, as the functions promise
abbrev pub receiver : Machine SoftDemodulator Call Told
receiver = record { next = λ m c. record_next (rate_of m.rate) m c; says = λ m c. told_by (rate_of m.rate) m c }

-- ---- what a caller can give: each sample is an i16's value, whether or not it will be refused
unfoldable pub Given : Call → Type 0
Given (one c) = Callable c
Given (stretch xs room) = Sixteen xs

-- ---- the single calls that a list comes to: of a stretch, the samples that went in
unfoldable pub singles_of : Rate → SoftDemodulator → Call → List Single
singles_of R m (one c) = c ∷ []
singles_of R m (stretch xs room) = map (λ (x : ℤ). sample x room) (take (fed_into R m xs room).fed xs)

unfoldable pub singles_from : SoftDemodulator → List Call → List Single
singles_from m [] = []
singles_from m (c ∷ cs) = singles_of (rate_of m.rate) m c ++ singles_from (record_next (rate_of m.rate) m c) cs

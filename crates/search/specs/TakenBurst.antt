-- A candidate that is held, as one record: what the rules say of one, they say of this. Assumes nothing.
use Rattle.std.specs.Prelude.{Bool, ℕ, ◌+◌, min, Float, Option, None, Some}
use Rattle.protocol.specs.declared.Kind.{Kind}
use Rattle.decode.specs.declared.Correlation.{Correlation}
use Rattle.search.specs.declared.Candidate.{Candidate}
use Rattle.search.specs.declared.Candidate.TheVariants.{Nothing, Held}
use Rattle.search.specs.declared.Control.{Control}
use Rattle.search.specs.declared.Shown.{Shown}

-- "no candidate, or one with its kind, age and three floats"; document 02 j): "Each candidate carries the sample at which it was taken"
pub record TakenBurst : Type 0 where
  pub kind : Kind
  pub age : ℕ
  pub diff : Float
  pub gain : Float
  pub shift : Float
  pub taken_at : ℕ

abbrev pub held_as : TakenBurst → Candidate
held_as t = Held t.kind t.age t.diff t.gain t.shift t.taken_at

abbrev pub held_in : Candidate → Option TakenBurst
held_in Nothing = None
held_in (Held kind age diff gain shift since) = Some (record { kind = kind; age = age; diff = diff; gain = gain; shift = shift; taken_at = since })

abbrev pub held_by : Control → Option TakenBurst
held_by c = held_in c.candidate

-- "takes a new candidate: kind, age 1, diff, gain, shift", and the number of the sample, which the count has reached
abbrev pub taken : Kind → Correlation → ℕ → TakenBurst
taken kind m count = record { kind = kind; age = 1; diff = m.diff; gain = m.gain; shift = m.shift; taken_at = count }

-- "adds one to its age": an age is a byte, and stops at the last so that any candidate has an answer.
-- A fit one comes there only from 254.
abbrev pub older : ℕ → ℕ
older age = min (age + 1) 255

abbrev pub at_age : ℕ → TakenBurst → TakenBurst
at_age age t = record { kind = t.kind; age = age; diff = t.diff; gain = t.gain; shift = t.shift; taken_at = t.taken_at }

abbrev pub aged : TakenBurst → TakenBurst
aged t = at_age (older t.age) t

-- what its frame shows once it is due; document 02 j): "each offer reports it along with the age at which the wait was set", and "carries a mark": both are the wait's
abbrev pub shown_of : TakenBurst → ℕ → Bool → Shown
shown_of t age replaced = record { kind = t.kind; gain = t.gain; shift = t.shift; taken_at = t.taken_at; age = age; replaced = replaced }

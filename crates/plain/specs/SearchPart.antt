-- The search by the rules, as far as the candidate and the wait go: no offer depends on the carrier timer. Assumes nothing.
use Rattle.search.specs.declared.Waiting.{Waiting}
use Rattle.std.specs.Prelude.{false, List, ℕ, ℤ, Float, Option, None}
use Rattle.protocol.specs.declared.Kind.{Kind}
use Rattle.decode.specs.declared.Correlation.{Correlation}
use Rattle.search.specs.declared.Candidate.{Candidate}
use Rattle.search.specs.declared.Control.{Control}
use Rattle.search.specs.TakenBurst.{held_as, taken}
use Rattle.search.specs.Search.{marked, searched}
use Rattle.demodulator.specs.Spans.{eight}
use Rattle.plain.specs.declared.pursuit.Pursuit.{Pursuit}
use Rattle.plain.specs.Values.{from_whole}

abbrev pub idle_timer : Option ℕ
idle_timer = None

-- the control of the rules at sample k, with no reply owed
abbrev pub control_of : Pursuit → ℕ → Option ℕ → Control
control_of s k t = record { candidate = s.candidate; wait = s.wait; dcd = t; owed = false; sample = k }

-- a control's candidate and wait
abbrev pub seen : Control → Pursuit
seen c = record { candidate = c.candidate; wait = c.wait }

abbrev pub free : Candidate → Pursuit
free candidate = record { candidate = candidate; wait = None }

abbrev pub takes : ℕ → Option Waiting → Kind → Correlation → Pursuit
takes k wait kind m = record { candidate = held_as (taken kind m k); wait = marked wait }

-- the search of sample k
abbrev pub searched_by : List Float → ℕ → List ℤ → ℕ → Candidate → Option ℕ → Control
searched_by table p xs k candidate t = searched p (eight p (from_whole table p xs k)) (control_of (free candidate) k t)

abbrev pub searched_at : List Float → ℕ → List ℤ → ℕ → Candidate → Pursuit
searched_at table p xs k candidate = seen (searched_by table p xs k candidate idle_timer)

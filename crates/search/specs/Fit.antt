-- Document 01's 'Unfit receiver', phrase by phrase in its order, but for the phrases of the rings, then document 02 j)'s: a control is fit where none applies. Over p, the samples in a symbol, where a limit
-- is a multiple of it. Assumes nothing.
use Rattle.search.specs.declared.Waiting.{Waiting}
use Rattle.std.specs.Prelude.{Bool, true, false, not, ◌&&◌, ℕ, ◌+◌, ◌*◌, ◌^◌, leb, ltb, Float, Option, Some, None}
use Rattle.std.specs.Float.{binary32}
use Rattle.std.specs.Float.Ieee.{of_bits, lt, le}
use Rattle.decode.specs.Correlator.{least_gain, threshold, in_range}
use Rattle.search.specs.declared.Candidate.{Candidate}
use Rattle.search.specs.declared.Control.{Control}
use Rattle.search.specs.TakenBurst.{held_in}

-- "count above 2^63"
abbrev pub count_fit_lem : Control → Bool
count_fit_lem c = leb c.sample (2 ^ 63)

-- "timer end above 2^63 + 3,840"; document 02 k): "timer end 2^63 + 1,920"
abbrev pub timer_fit_lem : ℕ → Option ℕ → Bool
timer_fit_lem p None = true
timer_fit_lem p (Some end) = leb end (2 ^ 63 + 384 * p)

-- "age outside 1 to 254"
abbrev pub age_fit : ℕ → Bool
age_fit age = leb 1 age && leb age 254

-- "diff below 0 or not below 100"
abbrev pub diff_fit : Float → Bool
diff_fit diff = le (of_bits binary32 0) diff && lt diff threshold

-- "gain not within 16 to 1,000,000"
abbrev pub gain_fit : Float → Bool
gain_fit gain = le least_gain gain && le gain (of_bits binary32 0x4974_2400)

-- "shift not within ±1,000,000"
abbrev pub shift_fit : Float → Bool
shift_fit shift = in_range shift

unfoldable pub candidate_fit_lem : Candidate → Bool
candidate_fit_lem candidate = elim (held_in candidate) [ None ↦ true | Some t ↦ age_fit t.age && diff_fit t.diff && gain_fit t.gain && shift_fit t.shift ]

abbrev pub held : Candidate → Bool
held candidate = elim (held_in candidate) [ None ↦ false | Some t ↦ true ]

-- "a wait outside 1 to 1,839, or held without a candidate, or with a reply owed"; document 02 k): "wait 1 to 919"
unfoldable pub wait_fit_lem : ℕ → Option Waiting → Candidate → Bool → Bool
wait_fit_lem p None candidate owed = true
wait_fit_lem p (Some w) candidate owed = leb 1 w.left && ltb w.left (184 * p) && held candidate && not owed

-- "a reply owed with a candidate held"
abbrev pub reply_fit : Bool → Candidate → Bool
reply_fit owed candidate = not (owed && held candidate)

-- document 02 j): "a taken-at number above the count or 0"
abbrev pub taken_fit_lem : ℕ → Candidate → Bool
taken_fit_lem count candidate = elim (held_in candidate) [ None ↦ true | Some t ↦ leb 1 t.taken_at && leb t.taken_at count ]

-- document 02 j): "a wait's kept age of 0"
abbrev pub kept_fit_lem : Option Waiting → Bool
kept_fit_lem None = true
kept_fit_lem (Some w) = leb 1 w.age

unfoldable pub control_fit_lem : ℕ → Control → Bool
control_fit_lem p c =
    count_fit_lem c
    && timer_fit_lem p c.dcd
    && candidate_fit_lem c.candidate
    && wait_fit_lem p c.wait c.candidate c.owed
    && reply_fit c.owed c.candidate
    && taken_fit_lem c.sample c.candidate
    && kept_fit_lem c.wait

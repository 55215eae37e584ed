-- Document 01, 'The receiver': the search, over p, the samples in a symbol, and over the eight values that the correlator is given, `v i` for the value i, the oldest 0.
-- Assumes nothing.
use Rattle.search.specs.declared.Waiting.{Waiting}
use Rattle.std.specs.Prelude.{Bool, true, false, cond, ℕ, ◌+◌, ◌-◌, ◌*◌, min, eqb, Float, Some, None, Option}
use Rattle.std.specs.Float.Ieee.{lt}
use Rattle.protocol.specs.declared.Kind.{Kind}
use Rattle.protocol.specs.declared.Kind.TheVariants.{Lsf, Bert, Stream, Packet}
use Rattle.protocol.specs.declared.SyncBurst.{SyncBurst}
use Rattle.protocol.specs.declared.SyncBurst.TheVariants.{Frame, Preamble, EndOfTransmission}
use Rattle.decode.specs.Correlator.{correlation, matches}
use Rattle.search.specs.declared.Candidate.{Candidate}
use Rattle.search.specs.declared.Control.{Control}
use Rattle.search.specs.TakenBurst.{TakenBurst, held_as, held_in, held_by, taken, aged}

-- ---- the control with one part changed
abbrev pub with_timer : Option ℕ → Control → Control
with_timer timer c = record { candidate = c.candidate; wait = c.wait; dcd = timer; owed = c.owed; sample = c.sample }

abbrev pub with_candidate : Candidate → Control → Control
with_candidate held c = record { candidate = held; wait = c.wait; dcd = c.dcd; owed = c.owed; sample = c.sample }

-- a timer's end has 64 bits, and stops at the last so that any control has an answer: no fit one comes there
abbrev pub end_after_lem : ℕ → ℕ → ℕ
end_after_lem count span = min (count + span) 0xffff_ffff_ffff_ffff

-- ---- first part
-- "preamble, then end of transmission; a match sets the timer's end to count + 240, even if that is sooner than before"; document 02 k): "the timer spans are 120 and 1,920"
unfoldable pub carried : ℕ → SyncBurst → (ℕ → Float) → Control → Control
carried p burst v c = cond (matches burst v) (with_timer (Some (end_after_lem c.sample (24 * p))) c) c

-- ---- second part
-- the order in which the kinds are tried
abbrev pub rank : Kind → ℕ
rank Lsf = 0
rank Bert = 1
rank Stream = 2
rank Packet = 3

abbrev pub same_kind : Kind → Kind → Bool
same_kind j k = eqb (rank j) (rank k)

-- a held candidate's age, and 0 where none is held
abbrev pub age_of : Candidate → ℕ
age_of candidate = elim (held_in candidate) [ None ↦ 0 | Some t ↦ t.age ]

-- "the wait becomes 1,840 - age"; document 02 k): "the wait is 920 - age". The age is kept with it, since the candidate's own can still rise
abbrev pub wait_after : ℕ → ℕ → Option Waiting
wait_after p age = Some (record { left = 184 * p - age; age = age; replaced = false })

-- document 02 j): "Where a later-listed kind replaced the candidate on the sample that set the wait, the offer carries a mark": it is kept with the wait,
-- and set by a take while one is held
unfoldable pub marked : Option Waiting → Option Waiting
marked None = None
marked (Some w) = Some (record { left = w.left; age = w.age; replaced = true })

abbrev pub taking : TakenBurst → Control → Control
taking new c = record { candidate = held_as new; wait = marked c.wait; dcd = c.dcd; owed = c.owed; sample = c.sample }

-- "A match whose diff is above the held candidate's adds one to its age, whatever its kind. Any other match, ties included, takes a new candidate"
unfoldable pub matched : Option TakenBurst → TakenBurst → Control → Control
matched None new c = taking new c
matched (Some t) new c = cond (lt t.diff new.diff) (with_candidate (held_as (aged t)) c) (taking new c)

-- "If a kind does not match and the held candidate is of that kind, the wait becomes 1,840 - age and the timer's end count + 3,840."
unfoldable pub missed : ℕ → Kind → Option TakenBurst → Control → Control
missed p kind None c = c
missed p kind (Some t) c =
    cond (same_kind t.kind kind)
    (record { candidate = c.candidate; wait = wait_after p t.age; dcd = Some (end_after_lem c.sample (384 * p)); owed = c.owed; sample = c.sample })
    c

-- one kind's turn in the pass
unfoldable pub tried : ℕ → (ℕ → Float) → Kind → Control → Control
tried p v kind c =
    cond (matches (Frame kind) v) (matched (held_by c) (taken kind (correlation (Frame kind) v) c.sample) c) (missed p kind (held_by c) c)

-- "LSF, BERT, Stream, Packet in that order .. Later kinds in the same pass can still replace the candidate or add to its age; the wait stays."
unfoldable pub passed : ℕ → (ℕ → Float) → Control → Control
passed p v c = tried p v Packet (tried p v Stream (tried p v Bert (tried p v Lsf c)))

-- "Search, first part: preamble, then end of transmission .. Search, second part: LSF, BERT, Stream, Packet in that order."
unfoldable pub searched : ℕ → (ℕ → Float) → Control → Control
searched p v c = passed p v (carried p EndOfTransmission v (carried p Preamble v c))

-- What happens in a run, as a log of marks, oldest first. A mark is read off a step from the control before it and from what is heard: no rule reads one. Assumes nothing.
use Rattle.std.specs.Prelude.{false, cond, List, [], ◌∷◌, ◌++◌, ℕ, ltb, Float, Some, None, Option}
use Rattle.std.specs.Float.Ieee.{lt}
use Rattle.protocol.specs.declared.Kind.{Kind}
use Rattle.protocol.specs.declared.Kind.TheVariants.{Lsf, Bert, Stream, Packet}
use Rattle.protocol.specs.declared.SyncBurst.TheVariants.{Frame, Preamble, EndOfTransmission}
use Rattle.decode.specs.Correlator.{correlation, matches}
use Rattle.search.specs.declared.Waiting.{Waiting}
use Rattle.search.specs.declared.Control.{Control}
use Rattle.search.specs.declared.Shown.{Shown}
use Rattle.search.specs.declared.Reply.{Reply}
use Rattle.search.specs.declared.Reply.TheVariants.{Accepted, Rejected}
use Rattle.search.specs.TakenBurst.{TakenBurst, held_by, taken, shown_of}
use Rattle.search.specs.Search.{carried, same_kind, tried}
use Rattle.search.specs.Turn.{counted, freed, owing}
use Rattle.demodulator.specs.Spans.{eight}
pub use Rattle.demodulator.specs.Calls.{is_refusal}
use Rattle.demodulator_run.specs.Filter.{ago}
use Rattle.demodulator_run.specs.Rules.{Single, sample, reply, query, History, start, single}

-- each with the number of its sample
pub data Mark : Type 0 where
  -- "takes a new candidate" while none was held: its kind
  First : ℕ → Kind → Mark
  -- "takes a new candidate" while one was held: the held one's kind, and the new one's
  Anew : ℕ → Kind → Kind → Mark
  -- "a kind does not match and the held candidate is of that kind": the wait is set. The kind, and the sample at which that candidate was taken
  Failed : ℕ → Kind → ℕ → Mark
  -- "a frame is due": what it shows
  FellDue : ℕ → Shown → Mark

-- ---- the search
-- "A match whose diff is above the held candidate's adds one to its age .. Any other match, ties included, takes a new candidate"
unfoldable pub taken_marks : ℕ → Option TakenBurst → TakenBurst → List Mark
taken_marks n None new = First n new.kind ∷ []
taken_marks n (Some t) new = cond (lt t.diff new.diff) [] (Anew n t.kind new.kind ∷ [])

-- "If a kind does not match and the held candidate is of that kind, the wait becomes .."
unfoldable pub missed_marks : ℕ → Kind → Option TakenBurst → List Mark
missed_marks n kind None = []
missed_marks n kind (Some t) = cond (same_kind t.kind kind) (Failed n kind t.taken_at ∷ []) []

-- one kind's turn in the pass
unfoldable pub tried_marks : (ℕ → Float) → Kind → Control → List Mark
tried_marks v kind c =
    cond (matches (Frame kind) v) (taken_marks c.sample (held_by c) (taken kind (correlation (Frame kind) v) c.sample)) (missed_marks c.sample kind (held_by c))

-- "LSF, BERT, Stream, Packet in that order": each from the control that the kinds before it left
unfoldable pub passed_marks : ℕ → (ℕ → Float) → Control → List Mark
passed_marks p v c =
    let c₁ : Control = tried p v Lsf c in
    let c₂ : Control = tried p v Bert c₁ in
    let c₃ : Control = tried p v Stream c₂ in
    tried_marks v Lsf c ++ (tried_marks v Bert c₁ ++ (tried_marks v Stream c₂ ++ tried_marks v Packet c₃))

unfoldable pub searched_marks : ℕ → (ℕ → Float) → Control → List Mark
searched_marks p v c = passed_marks p v (carried p EndOfTransmission v (carried p Preamble v c))

-- ---- a sample
-- "At 0 the wait and the candidate are removed and a frame is due." The control is the one after the removal.
unfoldable pub due_marks : ℕ → (ℕ → Float) → Option TakenBurst → Waiting → Control → List Mark
due_marks p v None w c = searched_marks p v c
due_marks p v (Some t) w c = FellDue c.sample (shown_of t w.age w.replaced) ∷ []

-- "while more than 0 is left the sample is finished, with no search"
unfoldable pub waited_marks : ℕ → (ℕ → Float) → Option Waiting → Control → List Mark
waited_marks p v None c = searched_marks p v c
waited_marks p v (Some w) c = cond (ltb 1 w.left) [] (due_marks p v (held_by c) w (freed c))

unfoldable pub sampled_marks : ℕ → (ℕ → Float) → Control → List Mark
sampled_marks p v c = waited_marks p v c.wait (counted c)

-- ---- a reply
-- "Accepted: the sample is finished. Rejected: the search runs for that same sample."
unfoldable pub replied_marks : ℕ → (ℕ → Float) → Reply → Control → List Mark
replied_marks p v Accepted c = []
replied_marks p v Rejected c = searched_marks p v (owing false c)

-- ---- a run
module _ (table : List Float) (p : ℕ) where
  -- what the call would mark if it is admitted
  unfoldable pub step_marks : History → Single → List Mark
  step_marks h (sample x room) = sampled_marks p (eight p (ago table p (h.samples ++ (x ∷ [])))) h.control
  step_marks h (reply r) = replied_marks p (eight p (ago table p h.samples)) r h.control
  step_marks h query = []

  -- a refused call marks nothing
  unfoldable pub called_marks : History → Single → List Mark
  called_marks h c = cond (is_refusal (single table p h c).said.answer) [] (step_marks h c)

  unfoldable pub log_from : History → List Single → List Mark
  log_from h [] = []
  log_from h (c ∷ cs) = called_marks h c ++ log_from (single table p h c).history cs

  -- the marks of all the calls since a fresh start
  abbrev pub log_all : List Single → List Mark
  log_all cs = log_from start cs

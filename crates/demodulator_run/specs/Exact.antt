-- When a mark is in the log, by the rules: at which call, and with which control before the search. Assumes nothing.
use Rattle.search.specs.declared.Waiting.{Waiting}
use Rattle.std.specs.Prelude.{◌≡◌, Bool, true, false, List, [], ◌∷◌, ◌++◌, ℕ, ◌+◌, ◌<◌, ℤ, length, Float, Option, Some, None}
use Rattle.std.specs.Float.Ieee.{lt}
use Rattle.numbers.specs.Firsts.{written}
use Rattle.machine.specs.Runs.{run}
use Rattle.protocol.specs.declared.Kind.{Kind}
use Rattle.search.specs.declared.Candidate.{Candidate}
use Rattle.search.specs.declared.Candidate.TheVariants.{Nothing}
use Rattle.search.specs.declared.Control.{Control}
use Rattle.search.specs.declared.Shown.{Shown}
use Rattle.search.specs.declared.Reply.TheVariants.{Accepted, Rejected}
use Rattle.search.specs.TakenBurst.{TakenBurst, held_as, shown_of}
use Rattle.search.specs.Search.{rank}
use Rattle.search.specs.Turn.{counted, owing}
use Rattle.demodulator.specs.Spans.{symbol_at}
use Rattle.demodulator.specs.Calls.{frame, offer_of}
use Rattle.demodulator_run.specs.Filter.{ago}
use Rattle.demodulator_run.specs.Rules.{Single, sample, reply, query, History, single, history_all, single_rules}
use Rattle.demodulator_run.specs.Marks.{Mark, First, Anew, Failed, FellDue, is_refusal}
use Rattle.demodulator_run.specs.Demands.{Ear, at, Matches, Unmatched}

-- what the candidate holds is t, and of the kind
abbrev pub HeldOf : Kind → TakenBurst → Candidate → Type 0
HeldOf kind t c = (c ≡ held_as t) × (t.kind ≡ kind)

-- one sample is left of the wait, which was set at the age, and marked or not
abbrev pub last_sample : ℕ → Bool → Option Waiting
last_sample age replaced = Some (record { left = 1; age = age; replaced = replaced })

-- ---- the search runs in the call, and the control before it is c
-- A sample: no wait is held. A reply: "Rejected: the search runs for that same sample."
abbrev pub Searches : History → Single → Control → Type 0
Searches h (sample x room) c = (h.control.wait ≡ None) × (c ≡ counted h.control)
Searches h (reply Accepted) c = ⊥
Searches h (reply Rejected) c = c ≡ owing false h.control
Searches h query c = ⊥

-- ---- what the search marks, from the control before it
abbrev pub BySearch : Ear → Control → Mark → Type 0
-- none was held, and the kind matched
BySearch ear c (First n k) = (n ≡ c.sample) × (c.candidate ≡ Nothing) × Matches ear k n
-- one of kind j was held, and kind k matched, its diff not above
BySearch ear c (Anew n j k) = (n ≡ c.sample) × Matches ear k n × ((t : TakenBurst) × HeldOf j t c.candidate × (lt t.diff (at ear k n).diff ≡ false))
-- one of kind k, taken at b, was held, which did not match; no earlier-listed kind replaced it
BySearch ear c (Failed n k b) =
    (n ≡ c.sample) × Unmatched ear k n
    × ((t : TakenBurst) × HeldOf k t c.candidate × ((j : Kind) → rank j < rank k → Matches ear j n → lt t.diff (at ear j n).diff ≡ true) × (t.taken_at ≡ b))
BySearch ear c (FellDue d x) = ⊥

-- ---- what the call marks, from what came before it
abbrev pub ByRules : Ear → Mark → History → Single → Type 0
ByRules ear (First n k) h call = (c : Control) × Searches h call c × BySearch ear c (First n k)
ByRules ear (Anew n j k) h call = (c : Control) × Searches h call c × BySearch ear c (Anew n j k)
ByRules ear (Failed n k b) h call = (c : Control) × Searches h call c × BySearch ear c (Failed n k b)
-- the wait before the sample was 1
ByRules ear (FellDue d x) h call =
    (value : ℤ) × (room : List Float) × (call ≡ sample value room) × (d ≡ h.control.sample + 1) × (h.control.wait ≡ last_sample x.age x.replaced)
    × ((t : TakenBurst) × (h.control.candidate ≡ held_as t) × (shown_of t x.age x.replaced ≡ x))

-- at one of the calls, which is admitted
pub record MarkedAt (table : List Float) (p : ℕ) (ear : Ear) (y : Mark) (h : History) (cs : List Single) : Type 0 where
  pub before : List Single
  pub call : Single
  pub after : List Single
  pub split : cs ≡ before ++ (call ∷ after)
  pub admitted : is_refusal (single table p (run (single_rules table p) h before) call).said.answer ≡ false
  pub rules : ByRules ear y (run (single_rules table p) h before) call

-- ---- a due frame "is offered: the kind, the sample number d, and symbol i", at the admitted sample d
pub record OfferedAt (table : List Float) (p : ℕ) (d : ℕ) (x : Shown) (cs : List Single) : Type 0 where
  pub before : List Single
  pub value : ℤ
  pub room : List Float
  pub after : List Single
  pub split : cs ≡ before ++ (sample value room ∷ after)
  pub number : length ((history_all table p before).samples ++ (value ∷ [])) ≡ d
  pub said : (single table p (history_all table p before) (sample value room)).said
      ≡ record { answer = frame (offer_of x d); room = written (symbol_at p x (ago table p ((history_all table p before).samples ++ (value ∷ [])))) 192 room }

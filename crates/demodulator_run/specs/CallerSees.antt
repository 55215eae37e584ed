-- Demand 3 by what a caller sees: the record before and after each single call, by the contracts' own definitions, and the answers. Assumes nothing.
use Rattle.std.specs.Prelude.{◌≡◌, ◌↔◌, true, false, ℕ, ◌+◌, ◌≤◌, ℤ, Float}
use mathlib.Core.List.{List, [], ◌∷◌, ◌++◌, Memᴰ}
use Rattle.machine.specs.Runs.{run, answers}
use Rattle.shaping.specs.Rate.{Rate}
use Rattle.search.specs.declared.Candidate.TheVariants.{Nothing}
use Rattle.search.specs.declared.Control.{Control}
use Rattle.search.specs.TakenBurst.{TakenBurst}
use Rattle.search.specs.Fit.{held}
use Rattle.demodulator.specs.declared.Offer.{Offer}
use Rattle.demodulator.specs.Calls.{Paper, refusal, nothing, frame, done, carrier, Left}
use Rattle.demodulator_run.specs.Rules.{Single, sample}
use Rattle.demodulator_run.specs.Marks.{is_refusal}
use Rattle.demodulator_run.specs.Run.{fresh_at, left, record_after}
use Rattle.demodulator_run.specs.Demands.{AgeAtMost}
use Rattle.demodulator_run.specs.Exact.{HeldOf, last_sample}
use Rattle.demodulator_run.specs.Calls.{Call, Told, receiver, singles_from}

-- ---- one of the single calls since a fresh start
pub record Moment (ss : List Single) : Type 0 where
  pub before : List Single
  pub call : Single
  pub after : List Single
  pub split : ss ≡ before ++ (call ∷ after)

-- the control of the record that it is given, and what it leaves
abbrev pub control_at : Rate → {ss : List Single} → Moment ss → Control
control_at R t = (record_after R t.before).control

abbrev pub left_then : Rate → {ss : List Single} → Moment ss → Left
left_then R t = left (record_after R t.before) t.call

abbrev pub Admitted : Rate → {ss : List Single} → Moment ss → Type 0
Admitted R t = is_refusal (left_then R t).answer ≡ false

-- "a candidate taken at sample n while none was held": one is held after the call
pub record TakenSeen (R : Rate) (ss : List Single) (n : ℕ) : Type 0 where
  pub moment : Moment ss
  pub admitted : Admitted R moment
  pub none : (control_at R moment).candidate ≡ Nothing
  pub holds : held (left_then R moment).demodulator.control.candidate ≡ true
  pub number : (left_then R moment).demodulator.control.sample ≡ n

-- the frame that is offered is due: one sample was left of its candidate's wait
pub record DueSeen (R : Rate) (ss : List Single) (o : Offer) : Type 0 where
  pub moment : Moment ss
  pub admitted : Admitted R moment
  pub value : ℤ
  pub room : List Float
  pub is_sample : moment.call ≡ sample value room
  -- which keeps the age at which it was set, and the mark
  pub last : (control_at R moment).wait ≡ last_sample o.age o.replaced
  pub awaited : (t : TakenBurst) × HeldOf o.kind t (control_at R moment).candidate × (t.taken_at ≡ o.taken_at) × (t.gain ≡ o.gain)
  pub number : o.sample ≡ (control_at R moment).sample + 1

-- a frame is due at sample d
abbrev pub SomeDue : Rate → List Single → ℕ → Type 0
SomeDue R ss d = (o : Offer) × DueSeen R ss o × (o.sample ≡ d)

-- ---- the offers among the answers
unfoldable pub offer_in : Paper → List Offer
offer_in (frame o) = o ∷ []
offer_in (refusal number) = []
offer_in nothing = []
offer_in done = []
offer_in (carrier there) = []

unfoldable pub offers_in : List Told → List Offer
offers_in [] = []
offers_in (t ∷ later) = offer_in t.answer ++ offers_in later

-- ---- "From a fresh start: a candidate taken at sample n while none was held makes a frame due at exactly one sample from n+1,839 to n+1,879, and an age never passes 11."
-- from n + lo to n + hi, and the age
pub record DemandThree (R : Rate) (cs : List Call) (lo hi age : ℕ) : Type 0 where
  pub due_one : (n : ℕ) → TakenSeen R (singles_from (fresh_at R) cs) n → n + hi ≤ (run receiver (fresh_at R) cs).control.sample
      → (d : ℕ) × SomeDue R (singles_from (fresh_at R) cs) d × (n + lo ≤ d) × (d ≤ n + hi)
      × ((e : ℕ) → SomeDue R (singles_from (fresh_at R) cs) e → n + lo ≤ e → e ≤ n + hi → e ≡ d)
  -- document 02 b): "a due sample is now always an offer", and no other is
  pub offers : (o : Offer) → Memᴰ o (offers_in (answers receiver (fresh_at R) cs)) ↔ DueSeen R (singles_from (fresh_at R) cs) o
  pub ages : AgeAtMost age (run receiver (fresh_at R) cs).control.candidate

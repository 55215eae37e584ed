-- The pass over the four kinds in closed form, control and marks at once, where at most one of them matches. Assumes nothing.
use Rattle.std.specs.Prelude.{Option, Some, None}
use mathlib.Core.Path.{◌≡◌, refl, ap, ◌∙◌}
use mathlib.Core.Bool.{Bool, true, false, cond}
use mathlib.Core.List.{List, [], ◌∷◌, ◌++◌}
use Prim.Native.Nat.{ℕ, ◌-◌, ◌*◌}
use lib.Ieee.{Float, lt}
use Rattle.protocol.specs.declared.Kind.{Kind}
use Rattle.protocol.specs.declared.Kind.TheVariants.{Lsf, Bert, Stream, Packet}
use Rattle.protocol.specs.declared.SyncBurst.{SyncBurst}
use Rattle.protocol.specs.declared.SyncBurst.TheVariants.{Frame, Preamble, EndOfTransmission}
use Rattle.decode.specs.declared.Correlation.{Correlation}
use Rattle.decode.specs.Correlator.{correlation, matches}
use Rattle.search.specs.declared.Candidate.{Candidate}
use Rattle.search.specs.declared.Candidate.TheVariants.{Nothing}
use Rattle.search.specs.declared.Waiting.{Waiting}
use Rattle.search.specs.declared.Control.{Control}
use Rattle.search.specs.TakenBurst.{TakenBurst, held_as, held_in, taken, older, at_age}
use Rattle.search.specs.Search.{with_timer, carried, same_kind, end_after_lem, marked, matched, wait_after, missed, tried, passed, searched}
use Rattle.demodulator_run.specs.Marks.{Mark, First, Anew, Failed, taken_marks, missed_marks, tried_marks, passed_marks, searched_marks}
use Rattle.demodulator_run.proofs.KindOrder.{Place, Before, Level, After, place}

-- what a step comes to
pub record Step : Type 0 where
  pub control : Control
  pub marks : List Mark

abbrev pub controlled : Candidate → Option Waiting → Option ℕ → Bool → ℕ → Control
controlled held wait timer owed n = record { candidate = held; wait = wait; dcd = timer; owed = owed; sample = n }

abbrev pub search_step : ℕ → (ℕ → Float) → Control → Step
search_step p v c = record { control = searched p v c; marks = searched_marks p v c }

-- ---- the same with the matches named apart from the values
turn : ℕ → Bool → Correlation → Kind → Control → Control
turn p hit m kind c = cond hit (matched (held_in c.candidate) (taken kind m c.sample) c) (missed p kind (held_in c.candidate) c)

turn_marks : Bool → Correlation → Kind → Control → List Mark
turn_marks hit m kind c = cond hit (taken_marks c.sample (held_in c.candidate) (taken kind m c.sample)) (missed_marks c.sample kind (held_in c.candidate))

pub pass_by : ℕ → (Kind → Bool) → (Kind → Correlation) → Control → Step
unfolding turn turn_marks
pass_by p hit m c =
    let c₁ : Control = turn p (hit Lsf) (m Lsf) Lsf c in
    let c₂ : Control = turn p (hit Bert) (m Bert) Bert c₁ in
    let c₃ : Control = turn p (hit Stream) (m Stream) Stream c₂ in
    record {
      control = turn p (hit Packet) (m Packet) Packet c₃;
      marks = turn_marks (hit Lsf) (m Lsf) Lsf c ++ (turn_marks (hit Bert) (m Bert) Bert c₁ ++ (turn_marks (hit Stream) (m Stream) Stream c₂ ++ turn_marks (hit Packet) (m Packet) Packet c₃));
    }

pub pass_by_lem : (p : ℕ) (v : ℕ → Float) (c : Control)
    → ◌≡◌ {A = Step} (record { control = passed p v c; marks = passed_marks p v c }) (pass_by p (λ k. matches (Frame k) v) (λ k. correlation (Frame k) v) c)
unfolding pass_by turn turn_marks passed passed_marks tried tried_marks
pass_by_lem p v c = refl

-- ---- the first part touches the timer only
module _ (p : ℕ) (v : ℕ → Float) where
  carried_timer : (burst : SyncBurst) (c : Control) → (t : Option ℕ) × (carried p burst v c ≡ with_timer t c)
  unfolding carried
  carried_timer burst c = go (matches burst v)
    where
      go : (b : Bool) → (t : Option ℕ) × (cond b (with_timer (Some (end_after_lem c.sample (24 * p))) c) c ≡ with_timer t c)
      go true = (Some (end_after_lem c.sample (24 * p)), refl)
      go false = (c.dcd, refl)

  -- the search is the pass, under some timer
  pub search_pass : (c : Control) → (t : Option ℕ) × (search_step p v c ≡ pass_by p (λ k. matches (Frame k) v) (λ k. correlation (Frame k) v) (with_timer t c))
  unfolding searched searched_marks
  search_pass c =
      let (t, e) = carried_timer Preamble c in
      let (u, f) = carried_timer EndOfTransmission (with_timer t c) in
      let both : carried p EndOfTransmission v (carried p Preamble v c) ≡ with_timer u c = ap (carried p EndOfTransmission v) e ∙ f in
      (u, ap (λ (k : Control). record { control = passed p v k; marks = passed_marks p v k }) both ∙ pass_by_lem p v (with_timer u c))

-- a wait that was set at the age, and marked or not
abbrev pub wait_from : ℕ → ℕ → Bool → Waiting
wait_from p age mark = record { left = 184 * p - age; age = age; replaced = mark }

-- ---- the closed form
module _ (p : ℕ) (m : Kind → Correlation) (t : Option ℕ) (o : Bool) (n : ℕ) where
  -- what kind j would take
  abbrev new : Kind → TakenBurst
  new j = taken j (m j) n

  pub pass_quiet : pass_by p (λ k. false) m (controlled Nothing None t o n) ≡ record { control = controlled Nothing None t o n; marks = [] }
  unfolding pass_by turn turn_marks missed missed_marks
  pass_quiet = refl

  pub pass_first : (j : Kind) → pass_by p (same_kind j) m (controlled Nothing None t o n) ≡ record { control = controlled (held_as (new j)) None t o n; marks = First n j ∷ [] }
  unfolding pass_by turn turn_marks missed missed_marks marked matched taken_marks
  pass_first Lsf = refl
  pass_first Bert = refl
  pass_first Stream = refl
  pass_first Packet = refl

  module _ (held : TakenBurst) where
    -- the held kind fails
    pub pass_lost : pass_by p (λ k. false) m (controlled (held_as held) None t o n)
        ≡ record { control = controlled (held_as held) (wait_after p held.age) (Some (end_after_lem n (384 * p))) o n; marks = Failed n held.kind held.taken_at ∷ [] }
    unfolding pass_by turn turn_marks missed missed_marks
    pass_lost = lost held.kind refl
      where
        lost : (k : Kind) → held.kind ≡ k → pass_by p (λ k. false) m (controlled (held_as held) None t o n)
            ≡ record { control = controlled (held_as held) (wait_after p held.age) (Some (end_after_lem n (384 * p))) o n; marks = Failed n held.kind held.taken_at ∷ [] }
        lost Lsf f = rw f
        lost Bert f = rw f
        lost Stream f = rw f
        lost Packet f = rw f

    -- kind j alone matches while one is held; `above`: its diff is above. The held one's age becomes `grown`
    abbrev pub struck : ℕ → Place → Bool → Kind → Step
    struck grown Before true j = record { control = controlled (held_as (at_age grown held)) (wait_after p grown) (Some (end_after_lem n (384 * p))) o n; marks = Failed n held.kind held.taken_at ∷ [] }
    struck grown Before false j = record { control = controlled (held_as (new j)) None t o n; marks = Anew n held.kind j ∷ [] }
    struck grown Level true j = record { control = controlled (held_as (at_age grown held)) None t o n; marks = [] }
    struck grown Level false j = record { control = controlled (held_as (new j)) None t o n; marks = Anew n held.kind j ∷ [] }
    struck grown After true j = record { control = controlled (held_as (at_age grown held)) (wait_after p held.age) (Some (end_after_lem n (384 * p))) o n; marks = Failed n held.kind held.taken_at ∷ [] }
    struck grown After false j = record { control = controlled (held_as (new j)) (Some (wait_from p held.age true)) (Some (end_after_lem n (384 * p))) o n; marks = Failed n held.kind held.taken_at ∷ Anew n held.kind j ∷ [] }

    pub pass_hit : (j : Kind) (above : Bool) → lt held.diff (m j).diff ≡ above
        → pass_by p (same_kind j) m (controlled (held_as held) None t o n) ≡ struck (older held.age) (place j held.kind) above j
    unfolding pass_by turn turn_marks missed missed_marks marked matched taken_marks
    pass_hit j = hit j held.kind refl
      where
        hit : (j k : Kind) → held.kind ≡ k → (above : Bool) → lt held.diff (m j).diff ≡ above
            → pass_by p (same_kind j) m (controlled (held_as held) None t o n) ≡ struck (older held.age) (place j held.kind) above j
        hit Lsf Lsf f true e = rw (f, e)
        hit Lsf Lsf f false e = rw (f, e)
        hit Lsf Bert f true e = rw (f, e)
        hit Lsf Bert f false e = rw (f, e)
        hit Lsf Stream f true e = rw (f, e)
        hit Lsf Stream f false e = rw (f, e)
        hit Lsf Packet f true e = rw (f, e)
        hit Lsf Packet f false e = rw (f, e)
        hit Bert Lsf f true e = rw (f, e)
        hit Bert Lsf f false e = rw (f, e)
        hit Bert Bert f true e = rw (f, e)
        hit Bert Bert f false e = rw (f, e)
        hit Bert Stream f true e = rw (f, e)
        hit Bert Stream f false e = rw (f, e)
        hit Bert Packet f true e = rw (f, e)
        hit Bert Packet f false e = rw (f, e)
        hit Stream Lsf f true e = rw (f, e)
        hit Stream Lsf f false e = rw (f, e)
        hit Stream Bert f true e = rw (f, e)
        hit Stream Bert f false e = rw (f, e)
        hit Stream Stream f true e = rw (f, e)
        hit Stream Stream f false e = rw (f, e)
        hit Stream Packet f true e = rw (f, e)
        hit Stream Packet f false e = rw (f, e)
        hit Packet Lsf f true e = rw (f, e)
        hit Packet Lsf f false e = rw (f, e)
        hit Packet Bert f true e = rw (f, e)
        hit Packet Bert f false e = rw (f, e)
        hit Packet Stream f true e = rw (f, e)
        hit Packet Stream f false e = rw (f, e)
        hit Packet Packet f true e = rw (f, e)
        hit Packet Packet f false e = rw (f, e)

-- What a call on a record leaves: a refused read its room, a call without a room none, and all but a frame the store and the window. Assumes nothing.
use Rattle.std.specs.Prelude.{Result, Ok, Err}
use Rattle.protocol.specs.declared.Refusal.{Refusal}
use mathlib.Core.Path.{◌≡◌, refl, ap, ◌∙◌}
use mathlib.Core.Bool.{not}
use mathlib.Core.List.{List, []}
use Prim.Native.Nat.{ℕ, ◌≤◌}
use native.Mathlib.Omega.{arith}
use lib.IntN.{ℤ}
use lib.Ieee.{Float}
use Rattle.shaping.specs.Rate.{Rate, rate_of}
use Rattle.protocol.specs.Refusals.{PaperRefusal}
use Rattle.modulator.specs.declared.SoftModulator.{SoftModulator}
use Rattle.modulator.specs.declared.ModulatorFrame.{ModulatorFrame}
use Rattle.modulator.specs.Paper.{Paper, refusal, done, wrote, transmit_end, read_output, idle, get_frame, nothing, done_paper}
use Rattle.modulator.specs.Record.{control_of}
use Rattle.modulator.specs.Fit.{record_fit_lem}
use Rattle.modulator.specs.Outcome.{Outcome, only, told, sends, frame_outcome, update_outcome, action_outcome}
use Rattle.modulator.specs.Calls.{Left, unless_unfit, settled, drained, provided, updated, ran}
use Rattle.modulator.specs.Calls.{read as readInto}
use Rattle.modulator_laws.proofs.Picked.{picked}
use Rattle.modulator_laws.proofs.EachCase.{each_update, each_action}
use Rattle.modulator_run.specs.Rules.{Call, provide, read, update, ask}
use Rattle.modulator_run.specs.Run.{left_at, left}
use Rattle.modulator_run.proofs.Refused.{lent, refused_record}
use Rattle.library_sender.specs.Layout.{numbers_of_lem}
use Rattle.library_sender.specs.Memory.{memory_at, laid_out, paper_code, tells, room_lent}

-- ---- a refused call's room is as it was lent
paper_refused : (a : Paper) → 100 ≤ paper_code a → (why : PaperRefusal) × (a ≡ refusal why)
paper_refused (refusal why) big = (why, refl)
paper_refused done big = absurd (omega arith)
paper_refused (wrote n) big = absurd (omega arith)
paper_refused (transmit_end n) big = absurd (omega arith)
paper_refused read_output big = absurd (omega arith)
paper_refused (idle state) big = absurd (omega arith)
paper_refused get_frame big = absurd (omega arith)
paper_refused nothing big = absurd (omega arith)

lent_same : (c : Call) → lent c ≡ room_lent c
lent_same (provide frame symbols) = refl
lent_same (read room) = refl
lent_same (update fill capacity latency) = refl
lent_same ask = refl

-- a refused call leaves the record and its room, and tells no number
pub record Kept (d : SoftModulator) (c : Call) : Type 0 where
  pub record_kept : (left d c).modulator ≡ d
  pub room_kept : (left d c).room ≡ room_lent c
  pub told_kept : (n : ℕ) → tells (left d c).answer n ≡ n

pub refused_kept : (d : SoftModulator) (c : Call) → 100 ≤ paper_code (left d c).answer → Kept d c
refused_kept d c big =
    let (why, is) = paper_refused (left d c).answer big in
    let k = refused_record d c why is in
    record { record_kept = k.0; room_kept = k.1 ∙ lent_same c; told_kept = λ n. ap (λ (a : Paper). tells a n) is }

-- ---- a call that is lent no room leaves none
abbrev Bare : Left → Type 0
Bare x = [] ≡ x.room

settled_bare : (R : Rate) (d : SoftModulator) (o : Outcome) → Bare (settled R d o)
unfolding settled
settled_bare R d (only answer) = refl
settled_bare R d (told answer pending buffer) = refl
settled_bare R d (sends frame padding pending) = refl

module _ (d : SoftModulator) where
  abbrev R : Rate
  R = rate_of d.rate

  unless_bare : (x : Left) → Bare x → Bare (unless_unfit R.p d [] x)
  unless_bare x b = picked Bare (not (record_fit_lem R.p d)) _ _ (λ _. refl) (λ _. b)

  pub provide_bare : (frame : ModulatorFrame) (symbols : List Float) → Bare (left d (provide frame symbols))
  unfolding left_at provided
  provide_bare frame symbols = unless_bare _ (settled_bare R d (frame_outcome R.p frame symbols (control_of d)))

  pub update_bare : (fill capacity latency : ℕ) → Bare (left d (update fill capacity latency))
  unfolding left_at updated
  update_bare fill capacity latency = unless_bare _ (settled_bare R d (update_outcome R.p fill capacity latency (control_of d)))

  pub ask_bare : Bare (left d ask)
  unfolding left_at ran
  ask_bare = unless_bare _ (settled_bare R d (action_outcome (control_of d)))

  -- ---- a read, an update and an action request leave the store and the window
  pub record SameArrays (x : Left) : Type 0 where
    pub store : d.next_transmission ≡ x.modulator.next_transmission
    pub window : d.filter_win ≡ x.modulator.filter_win

  abbrev KeptBy : Outcome → Type 0
  KeptBy o = SameArrays (settled R d o)

  unless_kept : (room : List ℤ) (x : Left) → SameArrays x → SameArrays (unless_unfit R.p d room x)
  unless_kept room x b = picked SameArrays (not (record_fit_lem R.p d)) _ _ (λ _. record { store = refl; window = refl }) (λ _. b)

  pub read_kept : (room : List ℤ) → SameArrays (left d (read room))
  unfolding left_at readInto drained
  read_kept room = unless_kept room _ (record { store = refl; window = refl })

  pub update_kept : (fill capacity latency : ℕ) → SameArrays (left d (update fill capacity latency))
  unfolding left_at updated settled
  update_kept fill capacity latency =
      unless_kept [] _ (each_update (control_of d) KeptBy R.p fill capacity latency (λ _. record { store = refl; window = refl }) (λ _ _. record { store = refl; window = refl }) (λ _ _. record { store = refl; window = refl }))

  pub ask_kept : SameArrays (left d ask)
  unfolding left_at ran settled
  ask_kept =
      unless_kept [] _ (each_action (control_of d) KeptBy (record {
        told_end = λ _ _. record { store = refl; window = refl };
        unread = λ _ _. record { store = refl; window = refl };
        idles = λ _ _ _. record { store = refl; window = refl };
        wishes = λ _ _ _. record { store = refl; window = refl };
        rests = λ _ _ _. record { store = refl; window = refl };
      }))

-- the memory in which the numbers alone were written
pub same_laid : (d : SoftModulator) (c : Call) → SameArrays d (left d c) → (n : List ℕ) → n ≡ numbers_of_lem (left d c).modulator → memory_at d.next_transmission d.filter_win n ≡ laid_out (left d c).modulator
same_laid d c k n laid = λ i. memory_at (k.store i) (k.window i) (laid i)

-- ---- a frame and an update tell no number
pub done_tells : (x : Result Unit Refusal) (a : Paper) → done_paper x ≡ a → 0 ≡ tells a 0
done_tells (Err why) a e = ap (λ (y : Paper). tells y 0) e
done_tells (Ok _) a e = ap (λ (y : Paper). tells y 0) e

-- The one invariant: what the log tells, and how far the present candidate has come, for each form that the control takes. Assumes nothing.
use Rattle.std.specs.Prelude.{Some, None, Option}
use mathlib.Core.Path.{◌≡◌, sym, subst}
use mathlib.Core.Logic.{◌⊎◌, inl, inr}
use mathlib.Core.Bool.{Bool, false}
use mathlib.Core.List.{List}
use Prim.Native.Nat.{ℕ, ◌+◌, ◌*◌, ◌≤◌, ◌<◌}
use native.Mathlib.Nat.{lt_of_not-le, eq-or-lt_of_le}
use native.Mathlib.Omega.{arith}
use Rattle.protocol.specs.declared.Kind.{Kind}
use Rattle.search.specs.declared.Waiting.{Waiting}
use Rattle.search.specs.declared.Shown.{Shown}
use Rattle.search.specs.declared.Control.{Control}
use Rattle.search.specs.TakenBurst.{TakenBurst, held_in, at_age, shown_of}
use Rattle.search.specs.Search.{rank}
use Rattle.demodulator_run.specs.Marks.{Mark, FellDue}
use Rattle.demodulator_run.specs.Demands.{Ear, Matches, Above, In, Started, Taken, Standing, DueAt, NotAgain, taken_at_lem}
use Rattle.demodulator_run.proofs.Log.{sample_of}
use Rattle.demodulator_run.proofs.Account.{SomeMatch, Episode, Account}

module _ (ear : Ear) (p : ℕ) where
  -- nothing is open
  abbrev pub Idle : List Mark → ℕ → Type 0
  Idle l n = Account ear p l n (λ (m : ℕ). ⊥) (λ (b : ℕ) (k : Kind). ⊥)

  -- the candidate first taken at m, and last at b with kind k, is open
  pub record Busy (l : List Mark) (n m b : ℕ) (k : Kind) : Type 0 where
    pub account : Account ear p l n (λ (i : ℕ). i ≡ m) (λ (c : ℕ) (j : Kind). (c ≡ b) × (j ≡ k))
    pub frames : (e : ℕ) → DueAt l e → e ≤ m
    pub started : Started l m

  -- it is what its kind took at sample b, but for its age
  abbrev pub TakenFrom : TakenBurst → ℕ → Type 0
  TakenFrom held b = held ≡ at_age held.age (taken_at_lem ear held.kind b)

  -- a candidate is held after sample n, and no wait: its kind has matched at every sample since `run`
  pub record Holding (l : List Mark) (n : ℕ) (held : TakenBurst) : Type 0 where
    pub first : ℕ
    pub run : ℕ
    pub b : ℕ
    pub busy : Busy l n first b held.kind
    pub standing : Standing l b held.kind
    pub begun : first ≤ run
    pub within : run ≤ b
    pub reached : b ≤ n
    -- each switch went to an earlier-listed kind, p samples on at most
    pub soon : run + p * rank held.kind ≤ first + 3 * p
    pub aged : held.age + b ≡ n + 1
    pub matched : (j : ℕ) → run ≤ j → j ≤ n → Matches ear held.kind j
    pub larger : (j : ℕ) → b < j → j ≤ n → Above ear held.kind j held.kind b
    pub last : (j : ℕ) (i : Kind) → b < j → Taken l j i → ⊥
    pub all : (j : ℕ) → first ≤ j → j ≤ n → SomeMatch ear p j
    pub values : TakenFrom held b

  -- once the wait is over the frame is due, and will show what is held
  pub record Awaiting (l : List Mark) (n : ℕ) (w : Waiting) (held : TakenBurst) : Type 0 where
    pub first : ℕ
    pub b : ℕ
    pub kind : Kind
    pub s : ℕ
    pub busy : Busy l n first b kind
    pub episode : Episode ear p l first b kind s (n + w.left) (shown_of held w.age w.replaced)
    pub over : s ≤ n
    pub some : 0 < w.left
    pub short : w.left < 184 * p
    pub born : 0 < held.age
    pub aged : (held.age + b ≤ s) ⊎ ((held.age + b ≤ s + 1) × SomeMatch ear p s)
    pub source : ℕ
    pub heard : Matches ear held.kind source
    pub values : TakenFrom held source

  abbrev pub Phase : List Mark → ℕ → Option TakenBurst → Option Waiting → Bool → Type 0
  Phase l n None None owed = Idle l n
  Phase l n None (Some w) owed = ⊥
  Phase l n (Some held) None owed = (owed ≡ false) × Holding l n held
  Phase l n (Some held) (Some w) owed = (owed ≡ false) × Awaiting l n w held

  -- of a control, and of the log so far
  abbrev pub Kept : List Mark → Control → Type 0
  Kept l c = Phase l c.sample (held_in c.candidate) c.wait c.owed

  -- ---- what holds in every phase
  module _ (l : List Mark) where
    phase_spaced : (n : ℕ) (o : Option TakenBurst) (wait : Option Waiting) (owed : Bool) → Phase l n o wait owed → (d e : ℕ) → DueAt l d → DueAt l e → d < e → d + 184 * p ≤ e + 1
    phase_spaced n None None owed I = I.spaced
    phase_spaced n None (Some w) owed I = absurd I
    phase_spaced n (Some held) None owed I = I.1.busy.account.spaced
    phase_spaced n (Some held) (Some w) owed I = I.1.busy.account.spaced

    phase_past : (n : ℕ) (o : Option TakenBurst) (wait : Option Waiting) (owed : Bool) → Phase l n o wait owed → (y : Mark) → In y l → sample_of y ≤ n
    phase_past n None None owed I = I.past
    phase_past n None (Some w) owed I = absurd I
    phase_past n (Some held) None owed I = I.1.busy.account.past
    phase_past n (Some held) (Some w) owed I = I.1.busy.account.past

    phase_told : (n : ℕ) (o : Option TakenBurst) (wait : Option Waiting) (owed : Bool) → Phase l n o wait owed → (d : ℕ) (x : Shown) → In (FellDue d x) l
        → (m : ℕ) × (b : ℕ) × (k : Kind) × (s : ℕ) × Episode ear p l m b k s d x
    phase_told n None None owed I = I.told
    phase_told n None (Some w) owed I = absurd I
    phase_told n (Some held) None owed I = I.1.busy.account.told
    phase_told n (Some held) (Some w) owed I = I.1.busy.account.told

    module _ (c : Control) (I : Kept l c) where
      pub kept_spaced : (d e : ℕ) → DueAt l d → DueAt l e → d < e → d + 184 * p ≤ e + 1
      kept_spaced = phase_spaced c.sample (held_in c.candidate) c.wait c.owed I

      pub kept_past : (y : Mark) → In y l → sample_of y ≤ c.sample
      kept_past = phase_past c.sample (held_in c.candidate) c.wait c.owed I

      pub kept_told : (d : ℕ) (x : Shown) → In (FellDue d x) l → (m : ℕ) × (b : ℕ) × (k : Kind) × (s : ℕ) × Episode ear p l m b k s d x
      kept_told = phase_told c.sample (held_in c.candidate) c.wait c.owed I

  -- ---- a sample without a mark
  pub account_later : {l : List Mark} {n m : ℕ} {Now : ℕ → Type 0} {Here : ℕ → Kind → Type 0} → n ≤ m → Account ear p l n Now Here → Account ear p l m Now Here
  account_later o A = record {
    past = λ y i. let u = A.past y i in omega arith;
    genuine = A.genuine;
    spaced = A.spaced;
    told = A.told;
    firsts = A.firsts;
    fates = A.fates;
  }

  pub busy_later : {l : List Mark} {n m i b : ℕ} {k : Kind} → n ≤ m → Busy l n i b k → Busy l m i b k
  busy_later o B = record { account = account_later o B.account; frames = B.frames; started = B.started }

  -- ---- how long a kind can match
  pub run_short : NotAgain ear p → (k : Kind) (f n : ℕ) → f ≤ n → ((j : ℕ) → f ≤ j → j ≤ n → Matches ear k j) → n < f + p
  run_short again k f n o m = lt_of_not-le λ (h : f + p ≤ n). again k f (m f (omega arith) o) (m (f + p) (omega arith) h)

  -- one sample more
  pub extend : (P : ℕ → Type 0) (lo n : ℕ) → ((j : ℕ) → lo ≤ j → j ≤ n → P j) → P (n + 1) → (j : ℕ) → lo ≤ j → j ≤ n + 1 → P j
  extend P lo n h x j u v = elim (eq-or-lt_of_le v) [ inl e ↦ subst P (sym e) x | inr i ↦ h j u (omega arith) ]

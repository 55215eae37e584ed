-- The span, the one frame in it, and the limit of the age, from the invariant. Assumes nothing.
use Rattle.std.specs.Prelude.{Some, None, Option}
use mathlib.Core.Path.{subst}
use mathlib.Core.Logic.{inl, inr}
use mathlib.Core.Bool.{Bool}
use mathlib.Core.List.{List}
use Prim.Native.Nat.{ℕ, ◌+◌, ◌-◌, ◌*◌, ◌≤◌, ◌<◌}
use native.Mathlib.Nat.{lt_of_not-le, eq-or-lt_of_le}
use native.Mathlib.Omega.{arith}
use Rattle.protocol.specs.declared.Kind.{Kind}
use Rattle.search.specs.declared.Candidate.{Candidate}
use Rattle.search.specs.declared.Waiting.{Waiting}
use Rattle.search.specs.declared.Shown.{Shown}
use Rattle.search.specs.declared.Control.{Control}
use Rattle.search.specs.TakenBurst.{TakenBurst, held_in}
use Rattle.search.proofs.HeldOrNot.{HeldOrNot, not_held, is_held, held_or_not}
use Rattle.demodulator_run.specs.Marks.{Mark}
use Rattle.demodulator_run.specs.Demands.{SymbolSize, Ear, NotAgain, Apart, Started, DueSpan, DueFrom, DueCause, DueOnce, AgeAtMost}
use Rattle.demodulator_run.proofs.Account.{SomeMatch, Episode, Closed, due_low, due_top, due_high}
use Rattle.demodulator_run.proofs.Phase.{Holding, Awaiting, Phase, Kept, kept_spaced, kept_told, run_short}
use Rattle.demodulator_run.proofs.Hold.{recent, young}

module _ (ear : Ear) (p : ℕ) (big : SymbolSize p) (l : List Mark) where
  -- ---- at most one frame in the span
  pub once_of : (c : Control) → Kept ear p l c → DueOnce p l
  once_of c I n d e i j u v w x =
      let apart = kept_spaced ear p l c I in
      let f : d < e + 1 = lt_of_not-le λ (o : e + 1 ≤ d). let q = apart e d j i (omega arith) in omega arith in
      let g : e < d + 1 = lt_of_not-le λ (o : d + 1 ≤ e). let q = apart d e i j (omega arith) in omega arith in
      omega arith

  -- ---- the span, where episodes end early enough and no candidate is held too long
  module _ (up : ℕ) (early : (n b : ℕ) (k : Kind) (s d : ℕ) (x : Shown) → Episode ear p l n b k s d x → d + 1 ≤ n + up)
      (brief : (n : ℕ) (held : TakenBurst) → (H : Holding ear p l n held) → n + 1 < H.first + up) where
    phase_closed : (n : ℕ) (o : Option TakenBurst) (wait : Option Waiting) (owed : Bool) → Phase ear p l n o wait owed → (m : ℕ) → Started l m → m + (up - 1) ≤ n → (b : ℕ) × (k : Kind) × Closed ear p l m b k
    phase_closed n None None owed I m i q = elim (I.firsts m i) [ inl c ↦ c | inr e ↦ absurd e ]
    phase_closed n None (Some w) owed I m i q = absurd I
    phase_closed n (Some held) None owed I m i q = elim (I.1.busy.account.firsts m i) [
      | inl c ↦ c
      | inr e ↦ absurd (let u = brief n held I.1 in omega arith)
    ]
    phase_closed n (Some held) (Some w) owed I m i q = elim (I.1.busy.account.firsts m i) [
      | inl c ↦ c
      | inr e ↦ absurd (let W = I.1 in let s = W.some in let u = early W.first W.b W.kind W.s (n + w.left) _ W.episode in omega arith)
    ]

    module _ (c : Control) (I : Kept ear p l c) where
      pub span_of : DueSpan p up c.sample l
      span_of m i o =
          let (b, k, C) = phase_closed c.sample (held_in c.candidate) c.wait c.owed I m i o in
          let a = due_low ear p C.episode in
          let e = early m b k C.s C.d C.x C.episode in
          (C.d, (C.x, C.fell), omega arith, omega arith)

      pub cause_of : DueCause ear p up c.sample l
      cause_of m i o =
          let (b, k, C) = phase_closed c.sample (held_in c.candidate) c.wait c.owed I m i o in
          let E = C.episode in
          (C.d, C.x, C.fell, record { b = b; kind = k; s = C.s; fails = E.fails; due = E.due }, E.after, E.all)

      -- and each frame comes from a first take
      pub from_of : DueFrom p up l
      from_of d f =
          let (x, i) = f in
          let (m, b, k, s, E) = kept_told ear p l c I d x i in
          let a = due_low ear p E in
          let e = early m b k s d x E in
          (m, E.started, omega arith, omega arith)

  -- ---- the age, where a candidate's matches are few enough
  module _ (limit : ℕ) (holding : (n : ℕ) (held : TakenBurst) → Holding ear p l n held → held.age ≤ limit)
      (awaiting : (n : ℕ) (w : Waiting) (held : TakenBurst) → Awaiting ear p l n w held → held.age ≤ limit) where
    phase_age : (n : ℕ) {candidate : Candidate} → HeldOrNot candidate → (wait : Option Waiting) (owed : Bool) → Phase ear p l n (held_in candidate) wait owed → AgeAtMost limit candidate
    phase_age n not_held wait owed I = omega arith
    phase_age n (is_held held) None owed I = holding n held I.1
    phase_age n (is_held held) (Some w) owed I = awaiting n w held I.1

    pub age_of : (c : Control) → Kept ear p l c → AgeAtMost limit c.candidate
    age_of c I = phase_age c.sample (held_or_not c.candidate) c.wait c.owed I

  -- ---- where no kind matches again a symbol on
  module _ (again : NotAgain ear p) (c : Control) (I : Kept ear p l c) where
    brief_again : (n : ℕ) (held : TakenBurst) (H : Holding ear p l n held) → n + 1 < H.first + 188 * p
    brief_again n held H = let u = H.soon in let v = recent ear p again l n held H in omega arith

    pub span_again : DueSpan p (188 * p) c.sample l
    span_again = span_of (188 * p) (λ n b k s d x E. due_high ear p E) brief_again c I

    pub cause_again : DueCause ear p (188 * p) c.sample l
    cause_again = cause_of (188 * p) (λ n b k s d x E. due_high ear p E) brief_again c I

    pub from_again : DueFrom p (188 * p) l
    from_again = from_of (188 * p) (λ n b k s d x E. due_high ear p E) brief_again c I

    pub age_again : AgeAtMost (p + 1) c.candidate
    age_again = age_of (p + 1) (λ n held H. let u = young ear p again l n held H in omega arith)
        (λ n w held W.
        let F = W.episode.fails in
        let o = F.later in
        let u = run_short ear p again W.kind W.b (W.s - 1) (omega arith) (λ j v w. F.matched j v (omega arith)) in
        elim W.aged [ inl v ↦ omega arith | inr v ↦ let e = v.0 in omega arith ]) c I

  -- ---- where no two kinds match a symbol apart
  module _ (apart : Apart ear p) where
    -- a match at every sample from n on ends before n + p
    stretch : (n m : ℕ) → ((j : ℕ) → n ≤ j → j < m → SomeMatch ear p j) → m ≤ n + p
    stretch n m all =
        let o : m < n + p + 1 = lt_of_not-le λ (h : n + p + 1 ≤ m).
        let a = all n (omega arith) (omega arith) in
        let b = all (n + p) (omega arith) (omega arith) in
        apart a.0 b.0 n a.1 b.1 in
        omega arith

    holding_apart : (n : ℕ) (held : TakenBurst) (H : Holding ear p l n held) → n < H.first + p
    holding_apart n held H = let u = stretch H.first (n + 1) (λ j v w. H.all j v (omega arith)) in omega arith

    module _ (c : Control) (I : Kept ear p l c) where
      early_apart : (n b : ℕ) (k : Kind) (s d : ℕ) (x : Shown) → Episode ear p l n b k s d x → d + 1 ≤ n + 185 * p
      early_apart n b k s d x E = let t = due_top ear p E in let u = stretch n s E.all in let v = E.fails.later in omega arith

      brief_apart : (n : ℕ) (held : TakenBurst) (H : Holding ear p l n held) → n + 1 < H.first + 185 * p
      brief_apart n held H = let u = holding_apart n held H in omega arith

      pub span_apart : DueSpan p (185 * p) c.sample l
      span_apart = span_of (185 * p) early_apart brief_apart c I

      pub cause_apart : DueCause ear p (185 * p) c.sample l
      cause_apart = cause_of (185 * p) early_apart brief_apart c I

      pub from_apart : DueFrom p (185 * p) l
      from_apart = from_of (185 * p) early_apart brief_apart c I

      pub age_apart : AgeAtMost p c.candidate
      age_apart = age_of p
          (λ n held H. let u = holding_apart n held H in let v = H.begun in let w = H.within in let x = H.aged in omega arith)
          (λ n w held W.
          let E = W.episode in
          let a = E.after in
          elim W.aged [
            | inl v ↦ let u = stretch W.first W.s E.all in omega arith
            | inr v ↦
                let e = v.0 in
                let u = stretch W.first (W.s + 1) (λ j f g. elim (eq-or-lt_of_le g) [ inl q ↦ subst (SomeMatch ear p) {x = W.s} {y = j} (omega arith) v.1 | inr q ↦ E.all j f (omega arith) ]) in
                omega arith
          ]) c I

-- ---- the demanded ones follow from the sharper ones too
pub span_wider : (p fed : ℕ) (l : List Mark) → SymbolSize p → DueSpan p (185 * p) fed l → DueSpan p (188 * p) fed l
span_wider p fed l big S n i o = let (d, f, u, v) = S n i (omega arith) in (d, f, u, omega arith)

pub age_wider : (p : ℕ) (candidate : Candidate) → AgeAtMost p candidate → AgeAtMost (p + 1) candidate
age_wider p candidate a = omega arith

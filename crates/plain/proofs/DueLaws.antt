-- The sample at which a wait ends, and the frame that is then due. Assumes nothing.
use Rattle.std.specs.Prelude.{Some, None}
use mathlib.Core.Path.{◌≡◌, sym, ap, ◌∙◌, subst}
use mathlib.Core.Logic.{inl, inr}
use mathlib.Core.Bool.{true, false}
use Prim.Native.Nat.{ℕ, ◌+◌, ◌-◌, ◌≤◌, ◌<◌}
use native.Mathlib.Omega.{arith}
use borrow.Author.Tests.{lt-ltb, le-ltb}
use lib.Dec.{ltb}
use Rattle.numbers.proofs.Tests.{lt_or_le}
use Rattle.search.specs.declared.Waiting.{Waiting}
use Rattle.search.specs.TakenBurst.{TakenBurst, shown_of}
use Rattle.plain.specs.Rest.{due_at, due_of}

pub due_next : (k left : ℕ) → left ≤ 1 → due_at k left ≡ k + 1
due_next k left few = rw (lt-ltb left 2 (omega arith))

pub due_later : (k left : ℕ) → 2 ≤ left → due_at k left ≡ k + left
due_later k left many = rw (le-ltb left 2 many)

-- with one sample fewer left, from one sample on
pub due_nearer : (k left : ℕ) → 2 ≤ left → due_at (k + 1) (left - 1) ≡ due_at k left
due_nearer k left many = elim (lt_or_le left 3) [
  | inl two ↦ due_next (k + 1) (left - 1) (omega arith) ∙ (let e : k + 1 + 1 ≡ k + left = omega arith in e) ∙ sym (due_later k left many)
  | inr more ↦ due_later (k + 1) (left - 1) (omega arith) ∙ (let e : k + 1 + (left - 1) ≡ k + left = omega arith in e) ∙ sym (due_later k left many)
]

pub due_none : (k end : ℕ) (w : Waiting) (u : TakenBurst) (d : ℕ) → d ≡ due_at k w.left → end < d → None ≡ due_of k end w (Some u)
unfolding due_of
due_none k end w u d e past = let b : ltb end (due_at k w.left) ≡ true = lt-ltb end _ (subst (λ (n : ℕ). end < n) e past) in rw b

pub due_some : (k end : ℕ) (w : Waiting) (u : TakenBurst) (d : ℕ) → d ≡ due_at k w.left → d ≤ end
    → Some (record { shown = shown_of u w.age w.replaced; sample = d }) ≡ due_of k end w (Some u)
unfolding due_of
due_some k end w u d e near =
    let b : ltb end (due_at k w.left) ≡ false = le-ltb end _ (subst (λ (n : ℕ). n ≤ end) e near) in
    rw b (ap (λ (n : ℕ). Some (record { shown = shown_of u w.age w.replaced; sample = n })) e)

-- The next place of a ring, as a loop counts it. Assumes nothing.
use mathlib.Core.Path.{◌≡◌, ap, ◌∙◌}
use Prim.Native.Nat.{ℕ, ◌+◌, ◌%◌, ◌<◌}
use native.Mathlib.Nat.{mod-add-mod, mod-lt}
use native.Mathlib.Omega.{arith}

module _ (n at r : ℕ) (some : 0 < n) (next : r ≡ (at + 1) % n) where
  pub next_inside : r < n
  next_inside = rw next (mod-lt (at + 1) some)

  pub next_mod : (i : ℕ) → at ≡ i % n → r ≡ (i + 1) % n
  next_mod i e = next ∙ ap (λ (k : ℕ). (k + 1) % n) e ∙ mod-add-mod i n 1

  pub next_place : (c i : ℕ) → at ≡ (c + i) % n → r ≡ (c + (i + 1)) % n
  next_place c i e = next_mod (c + i) e ∙ ap (λ (k : ℕ). k % n) {x = c + i + 1} {y = c + (i + 1)} (omega arith)

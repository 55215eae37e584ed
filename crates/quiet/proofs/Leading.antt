-- Quiet samples one after the other: none, one, and some after some. Assumes nothing.
use mathlib.Core.Path.{◌≡◌, subst, ◌∙◌}
use mathlib.Core.Bool.{true}
use Prim.Native.Nat.{ℕ, suc, ◌+◌}
use native.Mathlib.Omega.{arith}
use native.Mathlib.Numerals.{add-one}
use lib.Ieee.{Float}
use Rattle.search.specs.declared.Control.{Control}
use Rattle.search.specs.Turn.{control_of, sampled}
use Rattle.quiet.specs.Walk.{goes_on_lem, walked_from}
use Rattle.quiet.specs.Parts.{Leads}

module _ (p : ℕ) (v : ℕ → ℕ → Float) where
  pub leads_none : (at : ℕ) (c : Control) → Leads p v at 0 c c
  leads_none at c k =
      let none : 0 + k ≡ k = omega arith in
      let here : at + 0 ≡ at = omega arith in
      rw (none, here)

  pub leads_step : (at : ℕ) (c : Control) → goes_on_lem p c ≡ true → Leads p v at 1 c (control_of (sampled p (v at) c))
  unfolding walked_from
  leads_step at c e k =
      let one : 1 + k ≡ suc k = omega arith in
      rw (one, e)

  pub leads_on : (at m n : ℕ) (c d e : Control) → Leads p v at m c d → Leads p v (at + m) n d e → Leads p v at (m + n) c e
  leads_on at m n c d e f g k =
      let all : m + n + k ≡ m + (n + k) = omega arith in
      let there : at + (m + n) ≡ at + m + n = omega arith in
      rw (all, there) (f (n + k) ∙ g k)

  -- one more
  pub leads_next : (at n : ℕ) (c d e : Control) → Leads p v at n c d → goes_on_lem p d ≡ true → control_of (sampled p (v (at + n)) d) ≡ e
      → Leads p v at (suc n) c e
  leads_next at n c d e before goes ends =
      subst (λ (m : ℕ). Leads p v at m c e) (add-one n) (leads_on at n 1 c d e before (subst (Leads p v (at + n) 1 d) ends (leads_step (at + n) d goes)))

-- F where the samples are 0: it is 0.0, and no burst matches eight such values. Over p and a finite table of 8p + 1 taps at most. Assumes nothing.
use mathlib.Core.Path.{◌≡◌, refl, sym, ◌∙◌, subst}
use mathlib.Core.Logic.{inl, inr}
use mathlib.Core.List.{List, [], ◌∷◌, ◌++◌}
use Prim.Native.Nat.{ℕ, zero, suc, ◌+◌, ◌-◌, ◌*◌, ◌≤◌, ◌<◌}
use native.Mathlib.Nat.{eq-or-lt_of_le, mul-le-mul_left}
use native.Mathlib.Omega.{arith}
use lib.Dec.{T}
use lib.IntN.{ℤ, pos}
use lib.ListN.{length, length-append}
use lib.Ieee.{Float, binary32, of_int, of_bits, lt, neg}
use Rattle.numbers.specs.Sum.{nought}
use Rattle.numbers.specs.Zero.{is_zero}
use Rattle.shaping.specs.Rate.{tap_count}
use Rattle.shaping.specs.Reach.{Finite}
use Rattle.bulk.proofs.Still.{still_dot}
use Rattle.look.specs.Rows.{value_faint}
use Rattle.look.proofs.Faint.{faint_unmatched}
use Rattle.search.proofs.Silent.{Unmatched}
use Rattle.demodulator.specs.Spans.{eight}
use Rattle.demodulator_run.specs.Filter.{sample_no_lem, filtered, ago}
use Rattle.demodulator_run.proofs.Causal.{sample_old, sample_new}

-- the samples after sample n, up to sample `last`, are 0
abbrev pub ZeroFrom : ℕ → ℕ → List ℤ → Type 0
ZeroFrom n last xs = (k : ℕ) → n < k → k ≤ last → sample_no_lem xs k ≡ pos 0

-- one more
pub zeros_more : (n : ℕ) (xs : List ℤ) (x : ℤ) → x ≡ pos 0 → ZeroFrom n (length xs) xs → ZeroFrom n (length (xs ++ (x ∷ []))) (xs ++ (x ∷ []))
zeros_more n xs x e z k l u =
    let long = length-append xs (x ∷ []) in
    elim (eq-or-lt_of_le u) [
      | inl f ↦ subst (λ (i : ℕ). sample_no_lem (xs ++ (x ∷ [])) i ≡ pos 0) {x = suc (length xs)} {y = k} (omega arith) (sample_new xs x ∙ e)
      | inr f ↦ sample_old xs x k (omega arith) ∙ z k l (omega arith)
    ]

zero_float : T (is_zero (of_int binary32 (pos 0)))
unfolding of_int is_zero
zero_float = tt

nought_faint : T (value_faint nought)
unfolding lt of_bits neg
nought_faint = tt

module _ (table : List Float) (p : ℕ) (size : length table ≤ tap_count p) (fine : Finite table) (xs : List ℤ) where
  -- a sum that starts at 0.0 and adds zeros of either sign is 0.0, and never -0.0: a fresh receiver's value, bit for bit
  pub filtered_zero : (n last k : ℕ) → ZeroFrom n last xs → n + 8 * p < k → k ≤ last → filtered table p xs k ≡ nought
  unfolding filtered
  filtered_zero n last zero z l u = refl
  filtered_zero n last (suc k) z l u =
      still_dot table fine _ (λ i m. subst (λ (x : ℤ). T (is_zero (of_int binary32 x))) (sym (z ((suc k + i) - 8 * p) (omega arith) (omega arith))) zero_float)

  pub ago_zero : (n : ℕ) → ZeroFrom n (length xs) xs → (j : ℕ) → n + 8 * p + j < length xs → ago table p xs j ≡ nought
  ago_zero n z j l = filtered_zero n (length xs) (length xs - j) z (omega arith) (omega arith)

  -- so once all eight values are: seven symbols later
  pub unmatched_zero : (n : ℕ) → ZeroFrom n (length xs) xs → n + 15 * p < length xs → Unmatched (eight p (ago table p xs))
  unmatched_zero n z l =
      faint_unmatched (eight p (ago table p xs)) (λ i m.
      let near : p * (7 - i) ≤ p * 7 = mul-le-mul_left p (omega arith) in
      subst (λ (x : Float). T (value_faint x)) (sym (ago_zero n z (p * (7 - i)) (omega arith))) nought_faint)

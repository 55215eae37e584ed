-- Samples by their numbers, and F of the whole recording. Assumes nothing.
use mathlib.Core.Path.{◌≡◌, refl, sym, ap, ◌∙◌, fun_ext}
use mathlib.Core.List.{List}
use Prim.Native.Nat.{ℕ, zero, suc, ◌+◌, ◌-◌, ◌*◌, ◌≤◌}
use native.Mathlib.Omega.{arith}
use lib.IntN.{ℤ, pos}
use lib.ListN.{length, get_or, take, get_or-eq_default}
use lib.Seq.{length-take-le}
use lib.Ieee.{Float, binary32, of_int, of_bits}
use Rattle.shaping.specs.Rate.{tap_count}
use Rattle.shaping.specs.Sum.{dot}
use Rattle.demodulator_run.specs.Filter.{sample_no_lem, filtered, ago}
use Rattle.demodulator_run.proofs.EarLaws.{filtered_taken}
use Rattle.plain.specs.Values.{from_whole}

pub zero_sample : of_bits binary32 0 ≡ of_int binary32 (pos 0)
unfolding of_bits of_int
zero_sample = refl

-- ---- a sample's place is one before its number
pub sample_at : (xs : List ℤ) (n : ℕ) → (n ≡ 0 → ⊥) → get_or xs (n - 1) (pos 0) ≡ sample_no_lem xs n
unfolding sample_no_lem
sample_at xs zero some = absurd (some refl)
sample_at xs (suc n) some = ap (λ (i : ℕ). get_or xs i (pos 0)) {x = suc n - 1} {y = n} (omega arith)

pub sample_past : (xs : List ℤ) (n : ℕ) → (n ≡ 0 → ⊥) → length xs ≤ n - 1 → pos 0 ≡ sample_no_lem xs n
sample_past xs n some past = sym (get_or-eq_default xs (pos 0) past) ∙ sample_at xs n some

-- ---- F(k) as a sum
pub filtered_sum : (table : List Float) (p : ℕ) (xs : List ℤ) (k : ℕ) → (k ≡ 0 → ⊥)
    → dot table (λ (i : ℕ). of_int binary32 (sample_no_lem xs ((k + i) - 8 * p))) ≡ filtered table p xs k
unfolding filtered
filtered_sum table p xs zero some = absurd (some refl)
filtered_sum table p xs (suc k) some = refl

-- ---- the values before sample k, of the samples up to it, are the whole recording's
module _ (table : List Float) (p : ℕ) (size : length table ≡ tap_count p) (xs : List ℤ) (k : ℕ) (there : k ≤ length xs) where
  taken_long : length (take k xs) ≡ k
  taken_long = length-take-le k xs there

  pub whole_ago : ago table p (take k xs) ≡ from_whole table p xs k
  whole_ago =
      fun_ext (λ (j : ℕ). ap (λ (n : ℕ). filtered table p (take k xs) (n - j)) taken_long ∙ filtered_taken table p (omega (arith, size)) k xs (k - j) (omega arith))

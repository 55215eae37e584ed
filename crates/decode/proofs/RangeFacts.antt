-- Eight values within ±1,000,000: with their zeros unsigned they, their highest and their lowest are too, and so are gain and shift. Assumes nothing.
use mathlib.Core.Path.{◌≡◌, refl}
use mathlib.Core.Logic.{inl, inr}
use mathlib.Core.Bool.{Bool, true, false, not}
use Prim.Native.Nat.{ℕ, zero, suc, ◌≤◌, ◌<◌}
use native.Mathlib.Nat.{eq-or-lt_of_le, le_of_suc-le-suc, le_refl, zero-lt-suc}
use native.Mathlib.Omega.{arith}
use lib.Dec.{T, lit≤}
use lib.Ieee.{Float, binary32, of_bits, add, sub, lt, le}
use lib.Ieee.Exact.{HasValue}
use lib.Ieee.Fits.{and_i, and_l, and_r}
use lib.Ieee.Scale.{finite}
use Rattle.numbers.specs.Choice.{larger, smaller}
use Rattle.numbers.specs.Within.{Within}
use Rattle.numbers.proofs.Order.{le→cross, nlt→le}
use Rattle.numbers.proofs.Extremes.{larger_holds, smaller_holds, larger_ge, smaller_le}
use Rattle.numbers.proofs.Bounds.{within_parts, between, within→tests, add_within, sub_within, div_within}
use Rattle.decode.specs.Correlator.{zero32, least_gain, zero_unsigned, highest, lowest, gain_of, shift_of, in_range}
use Rattle.decode.proofs.Scale.{Scale, million, Sized, sized_above}
use Rattle.decode.proofs.Direction.{Toward, toward_self, toward_trans}
use Rattle.decode.proofs.Opened.{unsigned_at, gain_at, shift_at}

-- ---- the range
top_value : HasValue (of_bits binary32 0x4974_2400) false million 1
unfolding of_bits
top_value = (refl, refl)

bottom_value : HasValue (of_bits binary32 0xc974_2400) true million 1
unfolding of_bits
bottom_value = (refl, refl)

pub range_within : (x : Float) → T (in_range x) → Within x million
unfolding in_range
range_within x h =
    let lo = of_bits binary32 0xc974_2400 in
    let hi = of_bits binary32 0x4974_2400 in
    between lo x hi million bottom_value top_value (and_l (le lo x) (le x hi) h) (and_r (le lo x) (le x hi) h)

pub within_range : (x : Float) → Within x million → T (in_range x)
unfolding in_range
within_range x w =
    let lo = of_bits binary32 0xc974_2400 in
    let hi = of_bits binary32 0x4974_2400 in
    let t = within→tests lo x hi million bottom_value top_value w in
    and_i (le lo x) (le x hi) t.0 t.1

pub range_le : (x : Float) → Within x million → T (le x (of_bits binary32 0x4974_2400))
range_le x w = (within→tests (of_bits binary32 0xc974_2400) x (of_bits binary32 0x4974_2400) million bottom_value top_value w).1

pub unsigned_within : (x : Float) → T (in_range x) → Within (zero_unsigned x) million
unfolding zero_unsigned of_bits
unsigned_within x h = add_within binary32 x zero32 million 0 (lit≤ tt) (range_within x h) (tt, lit≤ tt)

-- ---- the extreme of the values in a direction
abbrev pub extreme : Bool → (ℕ → Float) → ℕ → Float
extreme false u n = highest u n
extreme true u n = lowest u n

abbrev pub further : Bool → Float → Float → Float
further false a b = larger a b
further true a b = smaller a b

pub extreme_suc : (s : Bool) (u : ℕ → Float) (n : ℕ) → extreme s u (suc n) ≡ further s (extreme s u n) (u (suc n))
unfolding highest lowest
extreme_suc false u n = refl
extreme_suc true u n = refl

pub extreme_zero : (s : Bool) (u : ℕ → Float) → extreme s u zero ≡ u zero
unfolding highest lowest
extreme_zero false u = refl
extreme_zero true u = refl

further_holds : (s : Bool) (P : Float → Type 0) (a b : Float) → P a → P b → P (further s a b)
further_holds false P a b p q = larger_holds P a b p q
further_holds true P a b p q = smaller_holds P a b p q

further_toward : (s : Bool) (a b : Float) → T (finite a) → T (finite b) → Toward s a (further s a b) × Toward s b (further s a b)
further_toward false a b p q = larger_ge a b p q
further_toward true a b p q = smaller_le a b p q

module _ (s : Bool) (u : ℕ → Float) (k : ℕ) where
  pub extreme_within : (n : ℕ) → ((i : ℕ) → i ≤ n → Within (u i) k) → Within (extreme s u n) k
  extreme_within zero w = rw (extreme_zero s u) (w zero (le_refl 0))
  extreme_within (suc n) w = rw (extreme_suc s u n) (further_holds s (λ x. Within x k) (extreme s u n) (u (suc n)) (extreme_within n λ i l. w i (omega arith)) (w (suc n) (le_refl (suc n))))

  pub toward_extreme : (n : ℕ) → ((i : ℕ) → i ≤ n → Within (u i) k) → (i : ℕ) → i ≤ n → Toward s (u i) (extreme s u n)
  toward_extreme zero w i l = let e : i ≡ 0 = omega arith in rw (e, extreme_zero s u) (toward_self s (u zero) (w zero (le_refl 0)).0)
  toward_extreme (suc n) w i l =
      let a = extreme s u n in
      let b = u (suc n) in
      let A = (extreme_within n (λ j m. w j (omega arith))).0 in
      let B = (w (suc n) (le_refl (suc n))).0 in
      let F = further_toward s a b A B in
      rw (extreme_suc s u n)
      (elim (eq-or-lt_of_le l) [
        | inl e ↦ rw e F.1
        | inr m ↦
            toward_trans s (u i) a (further s a b) (w i l).0 A (further_holds s (λ x. T (finite x)) a b A B)
            (toward_extreme n (λ j o. w j (omega arith)) i (le_of_suc-le-suc m)) F.0
      ])

-- ---- gain and shift
module _ (v : ℕ → Float) (range : (i : ℕ) → i < 8 → T (in_range (v i))) where
  pub value_unsigned : (i : ℕ) → i ≤ 7 → Within (unsigned_at v i) million
  value_unsigned i l = unsigned_within (v i) (range i (omega arith))

  pub extreme_unsigned : (s : Bool) → Within (extreme s (unsigned_at v) 7) million
  extreme_unsigned s = extreme_within s (unsigned_at v) million 7 value_unsigned

  pub gain_within : Within (gain_at v) million
  unfolding gain_of of_bits
  gain_within =
      let hi = extreme false (unsigned_at v) 7 in
      let lo = extreme true (unsigned_at v) 7 in
      div_within binary32 (sub binary32 hi lo) (of_bits binary32 0x4000_0000) million 2 (lit≤ tt) (zero-lt-suc 1) (sub_within binary32 hi lo million million (lit≤ tt) (extreme_unsigned false) (extreme_unsigned true)) tt (lit≤ tt)

  pub shift_within : Within (shift_at v) million
  unfolding shift_of of_bits
  shift_within =
      let hi = extreme false (unsigned_at v) 7 in
      let lo = extreme true (unsigned_at v) 7 in
      div_within binary32 (add binary32 hi lo) (of_bits binary32 0x4000_0000) million 2 (lit≤ tt) (zero-lt-suc 1) (add_within binary32 hi lo million million (lit≤ tt) (extreme_unsigned false) (extreme_unsigned true)) tt (lit≤ tt)

  module _ (strong : T (not (lt (gain_at v) least_gain))) where
    pub gain_le : T (le least_gain (gain_at v))
    unfolding of_bits
    gain_le = nlt→le (gain_at v) least_gain gain_within.0 tt strong

    pub sized : Sized (gain_at v)
    unfolding of_bits
    sized = record {
      least = omega (arith, le→cross least_gain (gain_at v) tt gain_within.0 gain_le);
      most = omega (arith, within_parts (gain_at v) million gain_within);
    }

    pub scale : Scale (gain_at v) (shift_at v)
    scale = record { gain_finite = gain_within.0; gain_above = sized_above sized; shift_finite = shift_within.0 }

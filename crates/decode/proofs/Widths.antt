-- How far a match's value lies from the shift, for every finite shift and every gain g from 16 to 1,000,000: on its target's side, more than `least`, which is 5g/8 rounded
-- down, and less than `most`, the whole number after 11g/8; and `most` is three times `least` at most. Assumes nothing.
use mathlib.Core.Path.{refl}
use mathlib.Core.Bool.{Bool, true, false, not}
use Prim.Native.Nat.{ℕ, ◌+◌, ◌*◌, ◌/◌, ◌^◌, ◌≤◌, ◌<◌}
use native.Mathlib.Nat.{lt_of_not-le, mul-le-mul_right, mul-pos, zero-lt-suc, div-mul-le_self, lt-mul-div-succ}
use native.Mathlib.Omega.{arith}
use lib.Dec.{T, lit≤}
use lib.Ieee.{Float, of_bits, of_int, round, sub, lt}
use lib.Ieee.Scale.{finite}
use lib.Ieee.Positive.{den, den_pos}
use Rattle.numbers.specs.Choice.{size_of}
use Rattle.numbers.specs.Within.{plus}
use Rattle.decode.specs.Correlator.{farthest, distance_of}
use Rattle.decode.proofs.Scale.{Scale, million, Sized}
use Rattle.decode.proofs.Direction.{signed}
use Rattle.decode.proofs.Clear.{Far, clear_of}
use Rattle.decode.proofs.Gaps.{Way}

abbrev pub least : Float → ℕ
least g = 5 * plus g / (8 * den g)

abbrev pub most : Float → ℕ
most g = 11 * plus g / (8 * den g) + 1

-- ---- the two whole numbers of a gain
record Steps (g : Float) : Type 0 where
  low : least g * den g * 8 ≤ 5 * plus g
  high : 11 * plus g ≤ most g * den g * 8
  low_whole : least g ≤ 2 ^ 24
  high_whole : most g ≤ 2 ^ 24
  thrice : most g ≤ 3 * least g

small : (a d p k : ℕ) → 0 < d → a * (8 * d) ≤ k * p → k ≤ 11 → p ≤ million * d → a < 2 ^ 24
small a d p k D h K M = lt_of_not-le λ (u : 2 ^ 24 ≤ a). no (mul-le-mul_right (8 * d) u) (mul-le-mul_right p K)
  where
    no : 2 ^ 24 * (8 * d) ≤ a * (8 * d) → k * p ≤ 11 * p → ⊥
    no u w = omega arith

under_thrice : (a b d p : ℕ) → 0 < d → 5 * p < 8 * d * (a + 1) → b * (8 * d) ≤ 11 * p → 16 * d ≤ p → b < 3 * a
under_thrice a b d p D h k g = lt_of_not-le λ (u : 3 * a ≤ b). no (mul-le-mul_right (8 * d) u)
  where
    no : 3 * a * (8 * d) ≤ b * (8 * d) → ⊥
    no u = omega arith

steps : (g : Float) → Sized g → Steps g
steps g Z =
    let D : 0 < 8 * den g = mul-pos (zero-lt-suc 7) (den_pos g) in
    let a = div-mul-le_self (5 * plus g) (8 * den g) in
    let b = div-mul-le_self (11 * plus g) (8 * den g) in
    let c = lt-mul-div-succ (5 * plus g) D in
    let e = lt-mul-div-succ (11 * plus g) D in
    record {
      low = omega arith;
      high = omega arith;
      low_whole = omega (arith, small (least g) (den g) (plus g) 5 (den_pos g) a (lit≤ tt) Z.most);
      high_whole = omega (arith, small (11 * plus g / (8 * den g)) (den g) (plus g) 11 (den_pos g) b (lit≤ tt) Z.most);
      thrice = omega (arith, under_thrice (least g) (11 * plus g / (8 * den g)) (den g) (plus g) (den_pos g) c b Z.least);
    }

pub most_le : (g : Float) → Sized g → most g ≤ 3 * least g
most_le g Z = (steps g Z).thrice

-- ---- 5/8 and 11/8 are 3/8 from the target, and 3/8 is above 0.3
inner_far : (s : Bool) → Far s s 5
unfolding round of_int sub size_of lt of_bits
inner_far false = record { end_finite = tt; off_finite = tt; side = refl; far = tt }
inner_far true = record { end_finite = tt; off_finite = tt; side = refl; far = tt }

outer_far : (s : Bool) → Far (not s) s 11
unfolding round of_int sub size_of lt of_bits
outer_far false = record { end_finite = tt; off_finite = tt; side = refl; far = tt }
outer_far true = record { end_finite = tt; off_finite = tt; side = refl; far = tt }

module _ (g h : Float) (S : Scale g h) (Z : Sized g) (v : Float) (K : T (finite v)) where
  -- further than `least`
  pub further_than_least : (s : Bool) → T (not (lt farthest (distance_of g h (signed s) v))) → Way s v h (least g) 0
  further_than_least false n = omega (arith, lt_of_not-le (clear_of g h S false v K n false (least g) 5 (steps g Z).low_whole (inner_far false) (omega (arith, (steps g Z).low))))
  further_than_least true n = omega (arith, lt_of_not-le (clear_of g h S true v K n true (least g) 5 (steps g Z).low_whole (inner_far true) (omega (arith, (steps g Z).low))))

  -- not as far as `most`
  pub short_of_most : (s : Bool) → T (not (lt farthest (distance_of g h (signed s) v))) → Way s h v 0 (most g)
  short_of_most false n = omega (arith, lt_of_not-le (clear_of g h S false v K n true (most g) 11 (steps g Z).high_whole (outer_far false) (omega (arith, (steps g Z).high))))
  short_of_most true n = omega (arith, lt_of_not-le (clear_of g h S true v K n false (most g) 11 (steps g Z).high_whole (outer_far true) (omega (arith, (steps g Z).high))))

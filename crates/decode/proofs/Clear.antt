-- Where a match's value cannot lie. Of whole numbers n and eighths k: if n over the gain is k eighths at most, and k eighths of the target are more than 0.3 from it, then the
-- value is further from the shift than n; and the same the other way round. Only order and whole numbers are used, which are exact: no rounding error is bounded.
-- Assumes nothing.
use mathlib.Core.Path.{◌≡◌, ap}
use mathlib.Core.Bool.{Bool, true, false, not}
use Prim.Native.Nat.{ℕ, ◌+◌, ◌*◌, ◌^◌, ◌≤◌, ◌<◌}
use native.Mathlib.Nat.{mul-pos, zero-lt-suc, mul-le-mul_right, le_of_mul-le-mul_right}
use native.Mathlib.Omega.{arith}
use lib.Dec.{T, T_not}
use lib.Ieee.{Float, nan, inf, fin, binary32, up, down, of_int, round, sub, lt, le}
use lib.Ieee.Scale.{finite}
use lib.Ieee.Back.{round_whole}
use lib.Ieee.Positive.{den, den_pos}
use Rattle.numbers.specs.Choice.{size_of}
use Rattle.numbers.specs.Within.{plus_if, minus_if, plus, minus}
use Rattle.numbers.proofs.Order.{num_parts, le→cross, cross→le, not_lt, le_trans}
use Rattle.numbers.proofs.Rounding.{rounded, sub_rounds, div_rounds}
use Rattle.numbers.proofs.Bounds.{valued}
use Rattle.decode.specs.Correlator.{farthest, symbol_of, distance_of}
use Rattle.decode.proofs.Scale.{Scale}
use Rattle.decode.proofs.Direction.{signed, Ordered, Toward, toward_cross, rounds_toward, sub_toward}
use Rattle.decode.proofs.Near.{target_finite, size_finite, farthest_finite, difference_finite, symbol_finite, gap_finite, distance_finite, distance_le}

-- (p - n) / d up to q - m, and that by pg / dg up to (a - b) / 8
quotient : (r : Bool) (p n d q m c pg dg a b : ℕ) → 0 < c → Ordered r (p * c + m * c * d) (q * c * d + n * c) → Ordered r (q * dg * 8 + b * pg) (a * pg + m * dg * 8)
    → Ordered r (p * dg * 8 + b * (pg * d)) (a * (pg * d) + n * dg * 8)
quotient false p n d q m c pg dg a b C h k =
    let l : p + m * d ≤ q * d + n = le_of_mul-le-mul_right {k = c} (omega arith) C in
    omega (arith, mul-le-mul_right dg l, mul-le-mul_right d k)
quotient true p n d q m c pg dg a b C h k =
    let l : q * d + n ≤ p + m * d = le_of_mul-le-mul_right {k = c} (omega arith) C in
    omega (arith, mul-le-mul_right dg l, mul-le-mul_right d k)

over_one : (r : Bool) (a b c d : ℕ) → Ordered r (a + b) (c + d) → Ordered r (a * 1 + b) (d + c * 1)
over_one false a b c d h = omega arith
over_one true a b c d h = omega arith

-- ---- the end at k eighths of the target
abbrev pub end : Bool → ℕ → Float
end s k = round binary32 s k 8

abbrev pub off : Bool → ℕ → Float
off s k = sub binary32 (end s k) (of_int binary32 (signed s))

-- the part of x on the near side of zero, for what goes in the direction r
abbrev pub ahead : Bool → Float → ℕ
ahead false x = plus x
ahead true x = minus x

-- what stands at the end, or before it in the direction r, is above 0.3 from the target
pub record Far (r s : Bool) (k : ℕ) : Type 0 where
  pub end_finite : T (finite (end s k))
  pub off_finite : T (finite (off s k))
  pub side : ahead r (off s k) ≡ 0
  pub far : T (lt farthest (size_of (off s k)))

sizes : (pe ne a pu nu b de du : ℕ) → a ≡ pe + ne → b ≡ pu + nu → pu ≡ 0 → pe * du + nu * de ≤ pu * de + ne * du → b * de + 0 * du ≤ a * du + 0 * de
sizes pe ne a pu nu b de du p q z h = omega (arith, ap (λ (x : ℕ). x * du) p, ap (λ (x : ℕ). x * de) q, ap (λ (x : ℕ). x * de) z)

size_toward : (r : Bool) (e u : Float) → T (finite e) → T (finite u) → Toward r e u → ahead r u ≡ 0 → T (le (size_of u) (size_of e))
unfolding size_of
size_toward r nan u p q h z = absurd p
size_toward r (inf s) u p q h z = absurd p
size_toward r (fin s m e) nan p q h z = absurd q
size_toward r (fin s m e) (inf t) p q h z = absurd q
size_toward false (fin s m e) (fin t n d) p q h z =
    cross→le (fin false n d) (fin false m e) tt tt (sizes _ _ _ _ _ _ (down e) (down d) (num_parts (fin s m e)) (num_parts (fin t n d)) z (le→cross (fin s m e) (fin t n d) tt tt h))
size_toward true (fin s m e) (fin t n d) p q h z =
    cross→le (fin false n d) (fin false m e) tt tt
    (sizes (minus_if s (m * up e)) (plus_if s (m * up e)) _ (minus_if t (n * up d)) (plus_if t (n * up d)) _ (down e) (down d) (omega (arith, num_parts (fin s m e))) (omega (arith, num_parts (fin t n d))) z
    (omega (arith, le→cross (fin t n d) (fin s m e) tt tt h)))

-- ---- the law
module _ (g h : Float) (S : Scale g h) (s : Bool) (v : Float) (K : T (finite v)) (near : T (not (lt farthest (distance_of g h (signed s) v)))) (r : Bool) (n k : ℕ) where
  -- n on the target's side is a float, which the rounded difference does not pass
  difference_toward : Ordered r (plus v * den h + minus h * den v + minus_if s n * (den v * den h)) (minus v * den h + plus h * den v + plus_if s n * (den v * den h))
      → Toward r (sub binary32 v h) (round binary32 s n 1)
  difference_toward o =
      rounds_toward r binary32 (sub binary32 v h) (round binary32 s n 1) _ _ _ (plus_if s n) (minus_if s n) 1 (mul-pos (den_pos v) (den_pos h)) (zero-lt-suc 0)
      (sub_rounds binary32 v h K S.shift_finite) (rounded binary32 s n 1) (over_one r _ _ _ _ o)

  -- and the rounded quotient does not pass the end
  symbol_toward : n ≤ 2 ^ 24 → Ordered r (plus_if s n * den g * 8 + minus_if s k * plus g) (plus_if s k * plus g + minus_if s n * den g * 8) → Toward r (sub binary32 v h) (round binary32 s n 1)
      → Toward r (symbol_of g h v) (end s k)
  unfolding symbol_of
  symbol_toward N l D =
      let d = sub binary32 v h in
      let z = round binary32 s n 1 in
      let F = difference_finite g h S s v K near in
      let x = valued z s n (round_whole binary32 s n N) in
      rounds_toward r binary32 (symbol_of g h v) (end s k) _ _ _ (plus_if s k) (minus_if s k) 8 (mul-pos S.gain_above (den_pos d)) (zero-lt-suc 7)
      (div_rounds binary32 d g F S.gain_finite S.gain_above) (rounded binary32 s k 8)
      (quotient r (plus d) (minus d) (den d) (plus_if s n) (minus_if s n) (den z) (plus g) (den g) (plus_if s k) (minus_if s k) (den_pos z)
      (rw (← x.above, ← x.below) (toward_cross r d z F x.fine D)) l)

  -- so the value is not, in the direction r, up to n on the target's side of the shift
  pub clear_of : n ≤ 2 ^ 24 → Far r s k → Ordered r (plus_if s n * den g * 8 + minus_if s k * plus g) (plus_if s k * plus g + minus_if s n * den g * 8)
      → Ordered r (plus v * den h + minus h * den v + minus_if s n * (den v * den h)) (minus v * den h + plus h * den v + plus_if s n * (den v * den h)) → ⊥
  unfolding distance_of
  clear_of N o l m =
      let e = sub binary32 (symbol_of g h v) (of_int binary32 (signed s)) in
      let E = sub_toward r binary32 (symbol_of g h v) (end s k) (of_int binary32 (signed s)) (symbol_finite g h S s v K near) o.end_finite (target_finite s) (symbol_toward N l (difference_toward m)) in
      let Z = size_toward r e (off s k) (gap_finite g h S s v K near) o.off_finite E o.side in
      let F = size_finite (off s k) o.off_finite in
      T_not (lt farthest (size_of (off s k)))
      (not_lt (size_of (off s k)) farthest F farthest_finite (le_trans (size_of (off s k)) (size_of e) farthest F (distance_finite g h S s v K near) farthest_finite Z (distance_le g h S s v K near)))
      o.far

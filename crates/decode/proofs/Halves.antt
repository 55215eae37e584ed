-- Halves of whole numbers below 2 ^ 24 are exact in f32. So are their sums and differences that stay below it,
-- and two with the same value are the same, but for the sign of a zero. Assumes nothing.
use mathlib.Core.Path.{◌≡◌, refl, sym, ap, ◌∙◌}
use mathlib.Core.Logic.{inl, inr}
use mathlib.Core.Bool.{Bool, true, false, not, true≢false, false≢true}
use Prim.Native.Nat.{ℕ, suc, ◌+◌, ◌-◌, ◌*◌, ◌^◌, ◌≤◌, ◌<◌}
use native.Mathlib.Nat.{mul-pos, mul_assoc, mul-lt-mul_of_pos_right, lt_of_mul-lt-mul_right, le_of_mul-le-mul_right, lt_of_lt_of_le, zero-lt-suc}
use native.Mathlib.Omega.{arith}
use lib.IntN.{ℤ, pos, negsuc, nat_abs}
use lib.Dec.{T, lit≤}
use lib.Pow.{pow_pos}
use lib.Ieee.{Float, nan, inf, fin, binary32, of_bits, of_int, round, add, sub, div, neg, lt, le, fits}
use lib.Ieee.Fits.{add-fits, sub-fits, div-fits, neg-fits}
use lib.Ieee.Exact.{HasValue, round_exact}
use lib.Ieee.Scale.{finite, round_same}
use lib.Ieee.Positive.{den, den_pos}
use Rattle.numbers.specs.Within.{plus_if, minus_if, plus, minus}
use Rattle.numbers.specs.Zero.{zero_of, is_zero, neg_zero}
use Rattle.numbers.proofs.Order.{lt→cross, cross→lt, cross→le}
use Rattle.numbers.proofs.Rounding.{Rounds, add_rounds, sub_rounds, div_rounds}
use Rattle.numbers.proofs.Bounds.{valued, whole_exact}
use Rattle.numbers.proofs.Unique.{zero_is, level_same}
use Rattle.numbers.proofs.Zeros.{add_not_negative_zero}
use Rattle.decode.specs.Correlator.{zero32, zero_unsigned, shift_of}
use Rattle.decode.specs.Offset.{above, below}

-- x is exactly (p - n) / 2
abbrev pub Half : Float → ℕ → ℕ → Type 0
Half x p n = T (finite x) × (plus x * 2 + n * den x ≡ minus x * 2 + p * den x)

half_as : (x : Float) (p n q m : ℕ) → p + m ≡ q + n → Half x p n → Half x q m
half_as x p n q m e v = (v.0, omega (arith, v.1, ap (λ (k : ℕ). k * den x) e))

-- ---- a whole number's parts
sized : (z : ℤ) → above z + below z ≡ nat_abs z
sized (pos n) = omega arith
sized (negsuc n) = omega arith

-- ---- exact
value_half : (x : Float) (s : Bool) (a p n : ℕ) → HasValue x s a 2 → plus_if s a + n ≡ p + minus_if s a → Half x p n
value_half nan s a p n v e = absurd v
value_half (inf t) s a p n v e = absurd v
value_half (fin true m d) false a p n v e = absurd (true≢false v.0)
value_half (fin false m d) true a p n v e = absurd (false≢true v.0)
value_half (fin true m d) true a p n v e = (tt, omega (arith, v.1, ap (λ (k : ℕ). k * den (fin true m d)) e))
value_half (fin false m d) false a p n v e = (tt, omega (arith, v.1, ap (λ (k : ℕ). k * den (fin false m d)) e))

round_half : (s : Bool) (k : ℕ) → k < 2 ^ 24 → HasValue (round binary32 s k 2) s k 2
round_half s k h = round_exact binary32 s k 2 k 148 (zero-lt-suc 1) h (lt_of_lt_of_le (mul-lt-mul_of_pos_right h (pow_pos 148)) (lit≤ tt)) (sym (mul_assoc k (2 ^ 148) 2))

-- a / c is b / 2 where the two are (p - n) / c and (q - m) / 2
same_part : (a c p n q m : ℕ) → 0 < c → p * 2 + m * c ≡ q * c + n * 2 → a + n ≡ p → (a * 2 ≡ (q - m) * c) × (m ≤ q)
same_part a c p n q m C h e =
    let l : m ≤ q = le_of_mul-le-mul_right (omega arith) C in
    let b = q - m in
    let d : q ≡ m + b = omega arith in
    (omega (arith, h, ap (λ (k : ℕ). k * c) d), l)

rounds_half : (z : Float) (p n c q m : ℕ) → 0 < c → Rounds binary32 z p n c → p * 2 + m * c ≡ q * c + n * 2 → q < m + 2 ^ 24 → m < q + 2 ^ 24 → Half z q m
rounds_half z p n c q m C r h Q M = go r.sign r.mag r.is r.value
  where
    go : (s : Bool) (a : ℕ) → z ≡ round binary32 s a c → plus_if s a + n ≡ p + minus_if s a → Half z q m
    go false a e v =
        let b = same_part a c p n q m C h (omega arith) in
        rw (e, round_same binary32 false a c (q - m) 2 C (zero-lt-suc 1) b.0) (value_half (round binary32 false (q - m) 2) false (q - m) q m (round_half false (q - m) (omega arith)) (omega (arith, b.1)))
    go true a e v =
        let b = same_part a c n p m q C (omega arith) (omega arith) in
        rw (e, round_same binary32 true a c (m - q) 2 C (zero-lt-suc 1) b.0) (value_half (round binary32 true (m - q) 2) true (m - q) q m (round_half true (m - q) (omega arith)) (omega (arith, b.1)))

whole_half : (z : ℤ) → nat_abs z ≤ 2 ^ 24 → Half (of_int binary32 z) (2 * above z) (2 * below z)
whole_half (pos n) h = let v = valued (of_int binary32 (pos n)) false n (whole_exact binary32 (pos n) h) in (v.fine, omega (arith, v.above, v.below))
whole_half (negsuc n) h = let v = valued (of_int binary32 (negsuc n)) true (suc n) (whole_exact binary32 (negsuc n) h) in (v.fine, omega (arith, v.above, v.below))

-- ---- sums, differences and halves
module _ (x y : Float) (p n q m : ℕ) (v : Half x p n) (w : Half y q m) where
  add_half : p + q < n + m + 2 ^ 24 → n + m < p + q + 2 ^ 24 → Half (add binary32 x y) (p + q) (n + m)
  add_half =
      rounds_half (add binary32 x y) _ _ _ (p + q) (n + m) (mul-pos (den_pos x) (den_pos y)) (add_rounds binary32 x y v.0 w.0)
      (omega (arith, ap (λ (k : ℕ). k * den y) v.1, ap (λ (k : ℕ). k * den x) w.1))

  sub_half : p + m < n + q + 2 ^ 24 → n + q < p + m + 2 ^ 24 → Half (sub binary32 x y) (p + m) (n + q)
  sub_half =
      rounds_half (sub binary32 x y) _ _ _ (p + m) (n + q) (mul-pos (den_pos x) (den_pos y)) (sub_rounds binary32 x y v.0 w.0)
      (omega (arith, ap (λ (k : ℕ). k * den y) v.1, ap (λ (k : ℕ). k * den x) w.1))

  -- ---- order
  pub half_lt : T (lt x y) → p + m < q + n
  half_lt h =
      lt_of_mul-lt-mul_right (den x * den y)
      (omega (arith, lt→cross x y v.0 w.0 h, ap (λ (k : ℕ). k * den y) v.1, ap (λ (k : ℕ). k * den x) w.1))

  pub lt_half : p + m < q + n → T (lt x y)
  lt_half h =
      cross→lt x y v.0 w.0
      (omega (arith, mul-lt-mul_of_pos_right h (mul-pos (den_pos x) (den_pos y)), ap (λ (k : ℕ). k * den y) v.1, ap (λ (k : ℕ). k * den x) w.1))

  half_le : p + m ≡ q + n → T (le x y)
  half_le h =
      cross→le x y v.0 w.0
      (omega (arith, ap (λ (k : ℕ). k * (den x * den y)) h, ap (λ (k : ℕ). k * den y) v.1, ap (λ (k : ℕ). k * den x) w.1))

halved : (x : Float) (p n : ℕ) → Half x (2 * p) (2 * n) → p < n + 2 ^ 24 → n < p + 2 ^ 24 → Half (div binary32 x (of_bits binary32 0x4000_0000)) p n
unfolding of_bits
halved x p n v =
    rounds_half (div binary32 x (of_bits binary32 0x4000_0000)) _ _ _ p n (mul-pos (zero-lt-suc 1) (den_pos x)) (div_rounds binary32 x (of_bits binary32 0x4000_0000) v.0 tt (zero-lt-suc 1)) (omega (arith, v.1))

-- ---- the same
plain_zero : (x : Float) → T (fits binary32 x) → T (is_zero x) → T (not (neg_zero x)) → x ≡ zero_of false
plain_zero x p z h = let y = zero_is binary32 x p z in go y.0 y.1
  where
    go : (s : Bool) → x ≡ zero_of s → x ≡ zero_of false
    go false e = e
    go true e = absurd (unfold neg_zero in rw e at h)

half_same : (x y : Float) (p n q m : ℕ) → Half x p n → Half y q m → p + m ≡ q + n → T (fits binary32 x) → T (fits binary32 y)
    → T (not (neg_zero x)) → T (not (neg_zero y)) → x ≡ y
half_same x y p n q m v w e X Y cx cy =
    elim (level_same binary32 x y X Y (half_le x y p n q m v w e) (half_le y x q m p n w v (sym e))) [
      | inl s ↦ s
      | inr z ↦ plain_zero x X z.0 cx ∙ sym (plain_zero y Y z.1 cy)
    ]

clear_difference : (x y : Float) → T (fits binary32 x) → T (fits binary32 y) → T (not (neg_zero x)) → T (not (neg_zero (sub binary32 x y)))
unfolding sub
clear_difference x y X Y c = add_not_negative_zero binary32 x (neg y) X (neg-fits binary32 y Y) c

-- ---- (p - n) / 2 with p and n of 22 digits at most, so that sums and differences are exact
pub record Exact (x : Float) (p n : ℕ) : Type 0 where
  pub half : Half x p n
  pub p_small : p ≤ 2 ^ 22
  pub n_small : n ≤ 2 ^ 22
  pub held : T (fits binary32 x)

pub same_difference : {x y x' y' : Float} {p n q m p' n' q' m' : ℕ} → Exact x p n → Exact y q m → Exact x' p' n' → Exact y' q' m'
    → T (not (neg_zero x)) → T (not (neg_zero x')) → p + m + (n' + q') ≡ p' + m' + (n + q) → sub binary32 x y ≡ sub binary32 x' y'
same_difference {x} {y} {x'} {y'} {p} {n} {q} {m} {p'} {n'} {q'} {m'} X Y X' Y' c c' e =
    half_same (sub binary32 x y) (sub binary32 x' y') (p + m) (n + q) (p' + m') (n' + q')
    (sub_half x y p n q m X.half Y.half (omega (arith, X.p_small, Y.n_small)) (omega (arith, X.n_small, Y.p_small)))
    (sub_half x' y' p' n' q' m' X'.half Y'.half (omega (arith, X'.p_small, Y'.n_small)) (omega (arith, X'.n_small, Y'.p_small))) e
    (sub-fits binary32 x y) (sub-fits binary32 x' y') (clear_difference x y X.held Y.held c) (clear_difference x' y' X'.held Y'.held c')

-- a whole number, with its zero unsigned
pub whole_exact_half : (z : ℤ) → nat_abs z ≤ 2 ^ 21 → Exact (zero_unsigned (of_int binary32 z)) (2 * above z) (2 * below z)
unfolding zero_unsigned
whole_exact_half z h =
    let s = sized z in record {
      half = half_as (add binary32 (of_int binary32 z) zero32) (2 * above z + 0) (2 * below z + 0) (2 * above z) (2 * below z) (omega arith)
          (add_half (of_int binary32 z) zero32 (2 * above z) (2 * below z) 0 0 (whole_half z (omega arith)) (unfold of_bits in (tt, refl)) (omega arith) (omega arith));
      p_small = omega arith;
      n_small = omega arith;
      held = add-fits binary32 (of_int binary32 z) zero32;
    }

-- the half of a sum of two such
pub middle : (x y : Float) (p n q m : ℕ) → Exact x (2 * p) (2 * n) → Exact y (2 * q) (2 * m) → Exact (shift_of x y) (p + q) (n + m)
unfolding shift_of
middle x y p n q m X Y = record {
  half = halved (add binary32 x y) (p + q) (n + m)
      (half_as (add binary32 x y) (2 * p + 2 * q) (2 * n + 2 * m) (2 * (p + q)) (2 * (n + m)) (omega arith)
      (add_half x y (2 * p) (2 * n) (2 * q) (2 * m) X.half Y.half (omega (arith, X.p_small, Y.p_small)) (omega (arith, X.n_small, Y.n_small))))
      (omega (arith, X.p_small, Y.p_small)) (omega (arith, X.n_small, Y.n_small));
  p_small = omega (arith, X.p_small, Y.p_small);
  n_small = omega (arith, X.n_small, Y.n_small);
  held = div-fits binary32 (add binary32 x y) (of_bits binary32 0x4000_0000);
}

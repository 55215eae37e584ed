-- The decimal text of a number is that number: its digits are digits, they stand for it, and the first is no zero. Assumes nothing.
use mathlib.Core.Path.{◌≡◌, sym, ap, ◌∙◌}
use Prim.Native.Nat.{ℕ, zero, suc, ◌-◌, ◌/◌, ◌^◌, ◌≤◌, ◌<◌}
use native.Mathlib.Nat.{pow-suc, pow-succ', div-eq_of_lt, div-div-eq-div-mul, div-one, one-le-pow, le-div_iff_mul-le, div-lt_iff_lt-mul}
use native.Mathlib.Omega.{arith}
use lib.Dec.{lit<}
use lib.ListN.{length, get_or}
use Rattle.house.specs.BadLine.{tens, decimal, read_decimal}
use Rattle.house.proofs.Decimal.{tens_reached, tens_above}
use Rattle.house.proofs.Places.{length_decimal, digit_in}

module _ (n : ℕ) where
  abbrev t : ℕ
  t = tens n

  abbrev byte : ℕ → ℕ
  byte i = get_or (decimal n) i 0

  pub decimal_digits : (i : ℕ) → i < length (decimal n) → (48 ≤ byte i) × (byte i < 58)
  decimal_digits i l = rw (digit_in n i (rw (length_decimal n) at l)) (omega arith, omega arith)

  -- the first k digits stand for the number without the rest, and one digit fewer for its tenth
  tenth : (k : ℕ) → k ≤ t → n / 10 ^ (suc t - k) ≡ n / 10 ^ (t - k) / 10
  tenth k l =
      let above : suc t - k ≡ suc (t - k) = omega arith in
      ap (λ (e : ℕ). n / 10 ^ e) above ∙ ap (λ (w : ℕ). n / w) (pow-suc 10 (t - k)) ∙ sym (div-div-eq-div-mul n (10 ^ (t - k)) 10)

  front : (k : ℕ) → k ≤ suc t → read_decimal byte k ≡ n / 10 ^ (suc t - k)
  unfolding read_decimal
  front zero l =
      let whole : suc t - 0 ≡ suc t = omega arith in
      rw whole (sym (div-eq_of_lt (tens_above n)))
  front (suc k) l =
      let here : suc t - suc k ≡ t - k = omega arith in
      rw (here, front k (omega arith), tenth k (omega arith), digit_in n k (omega arith)) (omega arith)

  pub decimal_reads : read_decimal byte (length (decimal n)) ≡ n
  decimal_reads =
      let none : suc t - suc t ≡ 0 = omega arith in
      rw (length_decimal n) (front (suc t) (omega arith) ∙ ap (λ (e : ℕ). n / 10 ^ e) none ∙ div-one n)

  pub no_leading_zero : 1 ≤ n → 48 < byte 0
  no_leading_zero l =
      let whole : t - 0 ≡ t = omega arith in
      let some : 0 < 10 ^ t = one-le-pow t 10 (lit< tt) in
      let least : 1 ≤ n / 10 ^ t = (le-div_iff_mul-le some).1 (omega (arith, tens_reached n l)) in
      let most : n / 10 ^ t < 10 = (div-lt_iff_lt-mul some).1 (omega (arith, tens_above n, pow-succ' 10 t)) in
      rw (digit_in n 0 (omega arith), whole) (omega arith)

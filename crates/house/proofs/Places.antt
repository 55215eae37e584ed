-- The text of a bad line place by place, and how a loop writes it digit after digit. Assumes nothing.
use mathlib.Core.Path.{◌≡◌, refl, sym, ap, ◌∙◌}
use mathlib.Core.List.{List, [], ◌∷◌, ◌++◌}
use Prim.Native.Nat.{ℕ, zero, suc, ◌+◌, ◌-◌, ◌/◌, ◌%◌, ◌^◌, ◌≤◌, ◌<◌}
use native.Mathlib.Nat.{pow-succ', mul-div_cancel_left, one-le-pow, lt_of_not-le}
use native.Mathlib.Omega.{arith}
use lib.Dec.{lit<}
use lib.ListN.{length, get_or, set, drop, replicate, length-append, get_or-append}
use lib.Seq.{ext_get_or, get_or-append-add, get_or_at}
use Rattle.numbers.specs.Firsts.{firsts, written}
use Rattle.numbers.proofs.Firsts.{length_firsts, firsts_at, written_step}
use Rattle.house.specs.Line.{line_feed}
use Rattle.house.specs.BadLine.{tens, decimal_digit, decimal, heading, bad_line_lem, in_room}

-- a list by its places, and room with nothing in it
pub firsts_all : (l : List ℕ) → firsts (λ i. get_or l i 0) (length l) ≡ l
firsts_all l =
    ext_get_or 0 (firsts (λ i. get_or l i 0) (length l)) l (length_firsts (λ i. get_or l i 0) (length l)) λ i h.
    firsts_at (λ j. get_or l j 0) (length l) i 0 (rw (length_firsts (λ j. get_or l j 0) (length l)) at h)

abbrev pub empty : ℕ → List ℕ
empty n = replicate n 0

pub drop_empty : (k n : ℕ) → drop k (empty n) ≡ empty (n - k)
drop_empty zero n =
    let same : n - 0 ≡ n = omega arith in
    sym (ap empty same)
drop_empty (suc k) zero =
    let same : 0 - suc k ≡ 0 = omega arith in
    sym (ap empty same)
drop_empty (suc k) (suc n) =
    let same : n - k ≡ suc n - suc k = omega arith in
    drop_empty k n ∙ ap empty same

module _ (n : ℕ) where
  pub length_decimal : length (decimal n) ≡ suc (tens n)
  unfolding decimal
  length_decimal = length_firsts (λ i. decimal_digit n (tens n - i)) (suc (tens n))

  pub digit_in : (i : ℕ) → i < suc (tens n) → get_or (decimal n) i 0 ≡ decimal_digit n (tens n - i)
  unfolding decimal
  digit_in i l = firsts_at (λ j. decimal_digit n (tens n - j)) (suc (tens n)) i 0 l

  pub length_bad_line : length (bad_line_lem n) ≡ 11 + tens n
  unfolding bad_line_lem
  length_bad_line = simp length-append (omega (arith, length_decimal))

  -- the byte at a place
  abbrev pub byte_at : ℕ → ℕ
  byte_at i = get_or (bad_line_lem n) i 0

  pub digit_at : (at : ℕ) → 9 ≤ at → at < 10 + tens n → byte_at at ≡ 48 + n / 10 ^ (9 + tens n - at) % 10
  unfolding bad_line_lem
  digit_at at l h =
      let place : at ≡ 9 + (at - 9) = omega arith in
      let weight : tens n - (at - 9) ≡ 9 + tens n - at = omega arith in
      ap (λ (i : ℕ). byte_at i) place
      ∙ get_or-append-add heading (decimal n ++ (line_feed ∷ [])) (at - 9) 0
      ∙ get_or-append (decimal n) (line_feed ∷ []) 0 (at - 9) (omega (arith, length_decimal))
      ∙ digit_in (at - 9) (omega arith)
      ∙ ap (λ (k : ℕ). decimal_digit n k) weight

  pub feed_at : byte_at (10 + tens n) ≡ line_feed
  unfolding bad_line_lem
  feed_at =
      let place : 10 + tens n ≡ 9 + suc (tens n) = omega arith in
      ap (λ (i : ℕ). byte_at i) place
      ∙ get_or-append-add heading (decimal n ++ (line_feed ∷ [])) (suc (tens n)) 0
      ∙ get_or_at (decimal n) line_feed [] 0 (suc (tens n)) length_decimal

  -- the line feed goes in last
  stored : tens n < 20 → set (written byte_at (10 + tens n) (empty 40)) (10 + tens n) line_feed ≡ bad_line_lem n ++ empty (40 - length (bad_line_lem n))
  stored few =
      let all : suc (10 + tens n) ≡ length (bad_line_lem n) = omega (arith, length_bad_line) in
      ap (λ (b : ℕ). set (written byte_at (10 + tens n) (empty 40)) (10 + tens n) b) (sym feed_at)
      ∙ written_step byte_at (10 + tens n) (empty 40) 0 (omega arith)
      ∙ ap (λ (k : ℕ). written byte_at k (empty 40)) all
      ∙ rw (firsts_all (bad_line_lem n), drop_empty (length (bad_line_lem n)) 40)

  pub whole_text : tens n < 20 → record { bytes = set (written byte_at (10 + tens n) (empty 40)) (10 + tens n) line_feed; length = 10 + tens n + 1 } ≡ in_room (bad_line_lem n)
  unfolding in_room
  whole_text few =
      let long : 10 + tens n + 1 ≡ length (bad_line_lem n) = omega (arith, length_bad_line) in
      rw (stored few, long)

-- ---- the weight of the digit at a place: 0 past the last
module _ (t at : ℕ) where
  abbrev pub weight_at : ℕ
  weight_at = 10 ^ (10 + t - at) / 10

  pub weight_is : at < 10 + t → weight_at ≡ 10 ^ (9 + t - at)
  weight_is h =
      let more : 10 + t - at ≡ suc (9 + t - at) = omega arith in
      rw (more, pow-succ' 10 (9 + t - at)) (mul-div_cancel_left (10 ^ (9 + t - at)) (lit< tt))

  pub weight_none : 10 + t ≤ at → weight_at ≡ 0
  weight_none h =
      let none : 10 + t - at ≡ 0 = omega arith in
      rw none refl

  pub weight_some : at < 10 + t → 0 < weight_at
  weight_some h = rw (weight_is h) (one-le-pow (9 + t - at) 10 (lit< tt))

  pub before_end : 0 < weight_at → at < 10 + t
  before_end h = lt_of_not-le λ past. omega (arith, weight_none past)

  pub at_end : weight_at ≡ 0 → 10 + t ≤ at
  at_end e =
      let past : 9 + t < at = lt_of_not-le λ early. omega (arith, weight_some (omega arith)) in
      omega arith

-- The capital digits and their values: inverse to each other, and where they stand among the bytes. Assumes nothing.
use mathlib.Core.Path.{◌≡◌, refl}
use mathlib.Core.Bool.{Bool, true, false, cond}
use mathlib.Core.List.{List, [], ◌∷◌}
use Prim.Native.Nat.{ℕ, suc, ◌+◌, ◌-◌, ◌<◌}
use native.Mathlib.Nat.{le_of_suc-le-suc, not-suc-le-zero}
use lib.Dec.{T, eqb, ltb, eqb→eq, ltb→lt}
use lib.ListN.{length, get_or}
use borrow.Author.Tests.{eqb-true}
use Rattle.numbers.specs.Below.{all_below}
use Rattle.numbers.proofs.Below.{all_below_lem}
use Rattle.house.specs.Digits.{capitals, digit_of, place_in, value_of, is_digit}

-- ---- a byte at the place where it stands
abbrev next : Bool → ℕ → ℕ
next t n = cond t 0 (suc n)

pub at_place : (bs : List ℕ) (b : ℕ) → place_in bs b < length bs → get_or bs (place_in bs b) 0 ≡ b
unfolding place_in
at_place [] b l = absurd (not-suc-le-zero l)
at_place (x ∷ bs) b l = here (eqb x b) refl (at_place bs b) l
  where
    here : (t : Bool) → eqb x b ≡ t → (place_in bs b < length bs → get_or bs (place_in bs b) 0 ≡ b) → next t (place_in bs b) < length (x ∷ bs) → get_or (x ∷ bs) (next t (place_in bs b)) 0 ≡ b
    here true e later l = eqb-true x b e
    here false e later l = later (le_of_suc-le-suc l)

pub digit_of_value : (b : ℕ) → T (is_digit b) → digit_of (value_of b) ≡ b
unfolding digit_of value_of
digit_of_value b h = at_place capitals b (ltb→lt (value_of b) 16 h)

pub value_of_digit : (n : ℕ) → n < 16 → value_of (digit_of n) ≡ n
value_of_digit n l = eqb→eq (value_of (digit_of n)) n (all_below_lem 16 (λ i. eqb (value_of (digit_of i)) i) (unfold all_below value_of digit_of place_in capitals in tt) n l)

-- ---- the two stretches of the bytes in which the digits stand
abbrev ranged : ℕ → ℕ
ranged b = cond (ltb b 48) 16 (cond (ltb b 58) (b - 48) (cond (ltb b 65) 16 (cond (ltb b 71) (b - 65 + 10) 16)))

pub by_range : (b : ℕ) → b < 256 → ranged b ≡ value_of b
by_range b l = eqb→eq (ranged b) (value_of b) (all_below_lem 256 (λ i. eqb (ranged i) (value_of i)) (unfold all_below value_of place_in capitals in tt) b l)

abbrev stepped : ℕ → ℕ
stepped n = cond (ltb n 10) (48 + n) (65 + (n - 10))

pub by_step : (n : ℕ) → n < 16 → stepped n ≡ digit_of n
by_step n l = eqb→eq (stepped n) (digit_of n) (all_below_lem 16 (λ i. eqb (stepped i) (digit_of i)) (unfold all_below digit_of capitals in tt) n l)

-- What makes a line good or bad, digit by digit. Assumes nothing.
use Rattle.std.specs.Prelude.{Some, None}
use Rattle.std.specs.Option.{is_some}
use mathlib.Core.Path.{◌≡◌, refl}
use mathlib.Core.Bool.{Bool, true, false, cond, ◌&&◌}
use mathlib.Core.List.{List}
use Prim.Native.Nat.{ℕ, zero, suc, ◌+◌, ◌*◌, ◌/◌, ◌%◌, ◌≤◌, ◌<◌}
use native.Mathlib.Omega.{arith}
use native.Mathlib.Numerals.{add-one}
use lib.Dec.{T, eqb, eqb→eq}
use lib.ListN.{length, get_or, take}
use Rattle.std.specs.List.{list_all}
use Rattle.std.proofs.lemmas.List.Folds.{list_all_more}
use lib.Ieee.{Float, nan}
use lib.Ieee.Fits.{and_l, and_r}
use Rattle.numbers.specs.Below.{all_below}
use Rattle.numbers.proofs.Below.{all_below_lem}
use Rattle.house.specs.Digits.{is_digit}
use Rattle.house.specs.Line.{line_feed, good_line, pair_in, symbols_of_lem, read_line, four_at}
use Rattle.house.proofs.Bits.{bits_below}

module _ (line : List ℕ) where
  -- ---- what a test of the first bytes finds
  abbrev pub digit_at : ℕ → Bool
  digit_at i = is_digit (get_or line i 0)

  pub first_digits : (n : ℕ) → n ≤ length line → list_all is_digit (take n line) ≡ all_below n digit_at
  unfolding all_below
  first_digits zero h = refl
  first_digits (suc n) h = rw (← add-one n, list_all_more is_digit line n 0 h, first_digits n (omega arith))

  -- ---- what a line reads as
  pub read_good : good_line line ≡ true → read_line line ≡ Some (symbols_of_lem line)
  unfolding read_line
  read_good e = rw e

  pub read_bad : good_line line ≡ false → read_line line ≡ None
  unfolding read_line
  read_bad e = rw e

  -- a line that has symbols is good, and they are those of its digits; one that has none is bad
  good_by : (t : Bool) (all symbols : List Float) → cond t (Some all) None ≡ Some symbols → (t ≡ true) × (symbols ≡ all)
  good_by true all symbols e = (refl, cc)
  good_by false all symbols e = cc

  has_by : (t : Bool) (all : List Float) → is_some (cond t (Some all) None) ≡ t
  has_by true all = refl
  has_by false all = refl

  bad_by : (t : Bool) (all : List Float) → cond t (Some all) None ≡ None → t ≡ false
  bad_by true all e = cc
  bad_by false all e = refl

  pub some_good : {symbols : List Float} → read_line line ≡ Some symbols → good_line line ≡ true
  unfolding read_line
  some_good {symbols} e = (good_by (good_line line) (symbols_of_lem line) symbols e).0

  pub some_symbols : {symbols : List Float} → read_line line ≡ Some symbols → symbols ≡ symbols_of_lem line
  unfolding read_line
  some_symbols {symbols} e = (good_by (good_line line) (symbols_of_lem line) symbols e).1

  pub has_symbols : is_some (read_line line) ≡ good_line line
  unfolding read_line
  has_symbols = has_by (good_line line) (symbols_of_lem line)

  pub none_bad : read_line line ≡ None → good_line line ≡ false
  unfolding read_line
  none_bad e = bad_by (good_line line) (symbols_of_lem line) e

  -- ---- what a good line holds
  module _ (good : T (good_line line)) where
    pub good_digit : (i : ℕ) → i < 96 → T (digit_at i)
    unfolding good_line
    good_digit = all_below_lem 96 digit_at (and_l (all_below 96 digit_at) (eqb (length line) 97 && eqb (get_or line 96 0) line_feed) good)

    ends : T (eqb (length line) 97 && eqb (get_or line 96 0) line_feed)
    unfolding good_line
    ends = and_r (all_below 96 digit_at) (eqb (length line) 97 && eqb (get_or line 96 0) line_feed) good

    pub good_length : length line ≡ 97
    good_length = eqb→eq (length line) 97 (and_l (eqb (length line) 97) (eqb (get_or line 96 0) line_feed) ends)

    pub good_end : get_or line 96 0 ≡ line_feed
    good_end = eqb→eq (get_or line 96 0) line_feed (and_r (eqb (length line) 97) (eqb (get_or line 96 0) line_feed) ends)

-- a digit's four bits are two times two
pub pair_below : (four i : ℕ) → four < 16 → pair_in four i < 4
pair_below four i l = by_test (eqb (i % 2) 0)
  where
    by_test : (t : Bool) → cond t (four / 4) (four % 4) < 4
    by_test true = omega arith
    by_test false = omega arith

pub four_below : (symbols : List Float) (i : ℕ) → four_at symbols i < 16
four_below symbols i = omega (arith, bits_below (get_or symbols (2 * i) nan), bits_below (get_or symbols (2 * i + 1) nan))

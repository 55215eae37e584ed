-- Tests of a whole row of filtered values. Assumes nothing.
use Rattle.std.specs.Prelude.{◌≡◌, Bool, ◌&&◌, List, ℕ, length, Float}
use Rattle.std.specs.Float.{binary32}
use Rattle.std.specs.Float.Ieee.{of_bits, neg, lt}
use Rattle.numbers.specs.Below.{all_below}
use Rattle.decode.specs.Correlator.{in_range}
use Rattle.decode.specs.Parts.{values_of}

-- each value is "within ±1,000,000"
unfoldable pub row_in_range : List Float → Bool
row_in_range row = all_below (length row) (λ (i : ℕ). in_range (values_of row i))

-- 15.0: a gain is at most the size of the largest value, and "Gain below 16.0: no match."
abbrev pub faint : Float
faint = of_bits binary32 0x4170_0000

abbrev pub value_faint : Float → Bool
value_faint x = lt x faint && lt (neg faint) x

unfoldable pub row_faint : List Float → Bool
row_faint row = all_below (length row) (λ (i : ℕ). value_faint (values_of row i))

-- ---- what the functions promise
abbrev pub IsInRangeSays : List Float → Bool → Type 0
IsInRangeSays row r = r ≡ row_in_range row

abbrev pub IsFaintSays : List Float → Bool → Type 0
IsFaintSays row r = r ≡ row_faint row

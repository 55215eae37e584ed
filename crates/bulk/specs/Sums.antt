-- Tap sums side by side, of windows that lie in one row of values, each a place further than the last. Over any table, since each rate has
-- its own. Assumes nothing.
use Rattle.std.specs.Prelude.{◌≡◌, Bool, cond, List, ℕ, ◌+◌, ◌-◌, ltb, length, get_or, replicate, Float}
use Rattle.std.specs.Float.{nan, binary32}
use Rattle.std.specs.Float.Ieee.{of_bits, eq}
use Rattle.numbers.specs.Below.{all_below}
use Rattle.numbers.specs.Firsts.{firsts}
use Rattle.shaping.specs.Sum.{dot}

-- how many sums are made at once
abbrev pub lanes : ℕ
lanes = 48

-- value i of the window that begins at the row's place k (what `get_or` gives past the end is never read)
abbrev pub value_from : List Float → ℕ → ℕ → Float
value_from row k i = get_or row (k + i) nan

-- the single sum of that window: "start at 0.0; for i = 0 to 80 add tap i times sample k-80+i"
abbrev pub sum_from : List Float → List Float → ℕ → Float
sum_from table row k = dot table (value_from row k)

-- the sums of the windows that begin at the row's places 0 to 47; none is made of a row in which the last of them does not end
unfoldable pub sums_of : List Float → List Float → List Float
sums_of table row = cond (ltb (length row - (lanes - 1)) (length table)) (replicate lanes (of_bits binary32 0)) (firsts (sum_from table row) lanes)

-- all values are zeros, of either sign
unfoldable pub is_still_lem : List Float → Bool
is_still_lem row = all_below (length row) (λ (i : ℕ). eq (get_or row i nan) (of_bits binary32 0))

-- ---- what the functions promise
abbrev pub TapSumsSays : List Float → List Float → List Float → Type 0
TapSumsSays table row r = r ≡ sums_of table row

abbrev pub IsStillSays : List Float → Bool → Type 0
IsStillSays row r = r ≡ is_still_lem row

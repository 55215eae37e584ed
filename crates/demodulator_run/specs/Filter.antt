-- F(k), from the list of all admitted samples alone. Over p, the samples in a symbol, and the table of 8p + 1 taps. Assumes nothing.
use Rattle.std.specs.Prelude.{List, ℕ, zero, suc, ◌+◌, ◌-◌, ◌*◌, ℤ, pos, length, get_or, Float}
use Rattle.std.specs.Float.{binary32}
use Rattle.std.specs.Float.Ieee.{of_int}
use Rattle.numbers.specs.Sum.{nought}
use Rattle.shaping.specs.Sum.{dot}

-- "Samples are numbered from 1." "Samples before the first are 0."
unfoldable pub sample_no_lem : List ℤ → ℕ → ℤ
sample_no_lem xs zero = pos 0
sample_no_lem xs (suc k) = get_or xs k (pos 0)

-- "F(k): start at 0.0; for i = 0 to 80 add tap i times sample k-80+i. .. F(k) is 0.0 for k below 1." (On ℕ the subtraction comes last: it stops at 0, before the first sample.)
unfoldable pub filtered : List Float → ℕ → List ℤ → ℕ → Float
filtered table p xs zero = nought
filtered table p xs (suc k) = dot table (λ (i : ℕ). of_int binary32 (sample_no_lem xs ((suc k + i) - 8 * p)))

-- the filtered value j samples ago
abbrev pub ago : List Float → ℕ → List ℤ → ℕ → Float
ago table p xs j = filtered table p xs (length xs - j)

-- A recording's filtered values, and what the functions over them ask for and promise. Assumes nothing.
use Rattle.std.specs.Prelude.{◌≡◌, List, ℕ, ◌-◌, ◌≤◌, ℤ, length, Float}
use Rattle.shaping.specs.Rate.{tap_count}
use Rattle.decode.specs.Correlator.{zero_unsigned, highest, lowest}
use Rattle.demodulator_run.specs.Filter.{filtered}
use Rattle.plain.specs.declared.correlator.Range.{Range}

-- "up to 65,536 samples"
abbrev pub longest : ℕ
longest = 65536

-- the taps of a rate, and a recording that is not too long
abbrev pub Usable : ℕ → List Float → List ℤ → Type 0
Usable p table xs = (p ≤ 10) × (length table ≡ tap_count p) × (length xs ≤ longest)

-- F(k - j): "works each filtered value out from the recording directly". (On ℕ the subtraction stops at 0, and F(0) is 0.0.)
abbrev pub from_whole : List Float → ℕ → List ℤ → ℕ → ℕ → Float
from_whole table p xs k j = filtered table p xs (k - j)

-- "The correlator reads -0.0 as 0.0"
abbrev pub unsigned : (ℕ → Float) → ℕ → Float
unsigned v i = zero_unsigned (v i)

abbrev pub range_of : (ℕ → Float) → Range
range_of v = record { max = highest v 7; min = lowest v 7 }

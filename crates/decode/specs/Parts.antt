-- The correlator in parts, for a caller that has eight values and asks for six bursts: the definitions of `Correlator`, of values that an array holds. Assumes nothing.
use Rattle.std.specs.Prelude.{◌≡◌, Bool, List, map, ℕ, get_or, Float}
use Rattle.std.specs.Float.{nan}
use Rattle.numbers.specs.Below.{all_below}
use Rattle.protocol.specs.declared.SyncBurst.{SyncBurst}
use Rattle.protocol.specs.Bursts.{signs_of}
use Rattle.decode.specs.declared.Correlation.{Correlation}
use Rattle.decode.specs.declared.Spread.{Spread}
use Rattle.decode.specs.declared.correlator.Span.{Span}
use Rattle.decode.specs.Correlator.{zero_unsigned, in_range, highest, lowest, gain_of, shift_of, compared}

-- the values of a list by their places; beyond its end, not a number
abbrev pub values_of : List Float → ℕ → Float
values_of vs i = get_or vs i nan

abbrev pub eight_in_range_lem : List Float → Bool
eight_in_range_lem vs = all_below 8 (λ (i : ℕ). in_range (values_of vs i))

abbrev pub extremes_of : (ℕ → Float) → Span
extremes_of v = record { high = highest v 7; low = lowest v 7 }

abbrev pub spread_from : Span → Spread
spread_from e = record { gain = gain_of e.high e.low; shift = shift_of e.high e.low }

abbrev pub spread_of : (ℕ → Float) → Spread
spread_of v = spread_from (extremes_of v)

-- the answer for eight values whose zeros have no sign
abbrev pub answer_from : SyncBurst → (ℕ → Float) → Spread → Correlation
answer_from burst v s = compared (signs_of burst) v s.gain s.shift

-- ---- what the functions promise
abbrev pub UnsignZerosSays : List Float → List Float → Type 0
UnsignZerosSays vs r = r ≡ map zero_unsigned vs

abbrev pub SpreadOfSays : List Float → Spread → Type 0
SpreadOfSays vs r = r ≡ spread_of (values_of vs)

abbrev pub CompareSays : SyncBurst → List Float → Spread → Correlation → Type 0
CompareSays burst vs s r = r ≡ answer_from burst (values_of vs) s

-- What the crate's own functions make of a window that holds pulses only, at a rate: a sample is a sum over every p-th tap.
-- Assumes nothing.
use Rattle.std.specs.Prelude.{Bool, cond, ◌||◌, List, ℕ, ◌+◌, ◌-◌, ◌*◌, ◌/◌, ◌%◌, eqb, ltb, ℤ, pos, length, get_or, Float}
use Rattle.std.specs.Float.{nan, binary32}
use Rattle.std.specs.Float.Ieee.{of_bits, eq, mul, to_signed}
use Rattle.numbers.specs.Below.{all_below}
use Rattle.numbers.specs.Sum.{nought, sum_to}
use Rattle.shaping.specs.Rate.{Rate, tap_count}
use Rattle.shaping.specs.Sum.{value_at}
use Rattle.pulse.specs.Pulse.{listed, Line}

-- all but every p-th place, from the second oldest on, holds a zero of either sign
unfoldable pub pulses_only : ℕ → Line → Bool
pulses_only p line = all_below (tap_count p) (λ (i : ℕ). eqb (i % p) 1 || eq (value_at p line.window line.cursor i) (of_bits binary32 0))

-- the eight pulses of the line, those of the symbols after them, and then 0.0
unfoldable pub pulse_no : ℕ → Line → List Float → ℕ → Float
pulse_no p line symbols n =
    cond (ltb n 8) (value_at p line.window line.cursor (p * n + 1))
    (cond (ltb (n - 8) (length symbols)) (mul binary32 (listed symbols (n - 8)) (of_bits binary32 0x470a_8500)) (of_bits binary32 0))

-- ---- sample j of a symbol, by a row of pulses of which the symbol's own is the ninth
-- the first pulse that meets a tap: 0, and then 1. The ninth, the symbol's own, is the last: nine meet a tap, or eight
abbrev pub first_pulse_lem : ℕ → ℕ
first_pulse_lem j = cond (eqb j 0) 0 1

-- the first tap that meets a pulse: 0, p - 1, p - 2, .. 1
abbrev pub first_tap : ℕ → ℕ → ℕ
first_tap p j = p * first_pulse_lem j - j

-- of symbol k of the row
abbrev pub product : Rate → List Float → ℕ → ℕ → ℕ → Float
product R row j k q = mul binary32 (get_or R.taps (first_tap R.p j + R.p * q) nought) (get_or row (first_pulse_lem j + q + k) nan)

unfoldable pub phase_sum : Rate → List Float → ℕ → ℕ → Float
phase_sum R row j k = sum_to binary32 (product R row j k) (9 - first_pulse_lem j)

-- ---- 48 symbols
-- phase by phase
abbrev pub phase_cut : Rate → List Float → ℕ → ℤ
phase_cut R row i = to_signed 15 (phase_sum R row (i / 48) (i % 48))

-- symbol by symbol
abbrev pub in_turn : ℕ → List ℤ → ℕ → ℤ
in_turn p cuts i = get_or cuts (48 * (i % p) + i / p) (pos 0)

abbrev pub row_sample : Rate → List Float → ℕ → ℤ
row_sample R row i = to_signed 15 (phase_sum R row (i % R.p) (i / R.p))

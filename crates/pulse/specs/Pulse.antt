-- Document 01, 'The sender': how symbols go through the filter's window, at a rate. Assumes nothing.
use Rattle.std.specs.Prelude.{◌≡◌, cond, List, ℕ, zero, suc, ◌+◌, ◌/◌, ◌%◌, eqb, ℤ, get_or, set, Float}
use Rattle.std.specs.Float.{nan, binary32}
use Rattle.std.specs.Float.Ieee.{of_bits, mul, to_signed}
use Rattle.numbers.specs.Firsts.{written}
use Rattle.shaping.specs.Rate.{Rate, tap_count}
use Rattle.shaping.specs.Sum.{dot, value_at}

-- "A symbol makes ten samples: the symbol times 35461.0 enters the 81-place window, then nine times 0.0": what enters at sample t, by the symbols
unfoldable pub pulses : ℕ → (ℕ → Float) → ℕ → Float
pulses p symbol t = cond (eqb (t % p) 0) (mul binary32 (symbol (t / p)) (of_bits binary32 0x470a_8500)) (of_bits binary32 0)

-- the symbols of a list (what `get_or` gives past its end is never read)
abbrev pub listed : List Float → ℕ → Float
listed symbols i = get_or symbols i nan

-- the window and its cursor, where the oldest value lies
pub record Line : Type 0 where
  pub window : List Float
  pub cursor : ℕ

abbrev pub pushed : ℕ → Line → Float → Line
pushed p line value = record { window = set line.window line.cursor value; cursor = (line.cursor + 1) % tap_count p }

-- after the first n of the values e 0, e 1, ..
unfoldable pub after : ℕ → (ℕ → Float) → ℕ → Line → Line
after p e zero line = line
after p e (suc n) line = pushed p (after p e n line) (e n)

-- "Each sample is the tap sum as for F, cut toward zero to i16."
unfoldable pub sample_of : Rate → Line → ℤ
sample_of R line = to_signed 15 (dot R.taps (value_at R.p line.window line.cursor))

-- sample t of a frame: made once value t has entered
abbrev pub sample_at : Rate → (ℕ → Float) → Line → ℕ → ℤ
sample_at R e line t = sample_of R (after R.p e (suc t) line)

-- ---- what the sender's own functions leave
abbrev pub line_at : List Float → ℕ → Line
line_at window cursor = record { window = window; cursor = cursor }

-- e 0 .. e (n - 1) have entered the line, and their samples stand at the front of the room, whose rest is as it was
pub record Sent (R : Rate) (e : ℕ → Float) (n : ℕ) (line : Line) (room : List ℤ) (line' : Line) (room' : List ℤ) : Type 0 where
  pub enters : line' ≡ after R.p e n line
  pub writes : room' ≡ written (sample_at R e line) n room

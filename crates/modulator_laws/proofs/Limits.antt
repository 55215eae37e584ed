-- Each limit of 'Unfit sender', met and passed by one, worked out at both rates. Assumes nothing.
use Rattle.std.specs.Prelude.{Some}
use mathlib.Core.Path.{◌≡◌, refl}
use mathlib.Core.Bool.{Bool, true, false}
use mathlib.Core.List.{List}
use Prim.Native.Nat.{ℕ}
use lib.ListN.{replicate, set}
use lib.Ieee.{Float, nan, binary32, of_bits, le}
use Rattle.numbers.specs.Below.{all_below}
use Rattle.modulator.specs.declared.Progress.{Progress}
use Rattle.modulator.specs.declared.OutputBuffer.{OutputBuffer}
use Rattle.modulator.specs.declared.SoftModulator.{SoftModulator}
use Rattle.modulator.specs.Control.{buffer_of}
use Rattle.modulator.specs.Record.{fresh}
use Rattle.modulator.specs.Fit.{pulse_fit, window_fit, record_fit_lem}

-- a record by its rate and the parts that have limits
abbrev made_at : ℕ → ℕ → List Float → Progress → OutputBuffer → ℕ → SoftModulator
made_at rate cursor window progress buffer end = record {
  rate = rate;
  next_transmission = (fresh rate).next_transmission;
  filter_win = window;
  filter_cursor = cursor;
  progress = progress;
  pending = record { update_idle = true; calculate_tx_end = true; report_tx_end = Some (record { 0 = end }); try_get_frame = true };
  buffer = buffer;
}

abbrev made : ℕ → List Float → Progress → OutputBuffer → ℕ → SoftModulator
made = made_at 48000

abbrev progressed : ℕ → ℕ → ℕ → Progress
progressed length place padding = record { next_len = length; next_read = place; tx_delay_padding = record { 0 = padding } }

-- 35,461 in every place, -35,461 in the last
abbrev loudest : List Float
loudest = set (replicate 81 (of_bits binary32 0x470a_8500)) 80 (of_bits binary32 0xc70a_8500)

abbrev most : Progress
most = progressed 4000 4000 122400

abbrev fullest : OutputBuffer
fullest = buffer_of 16777216 16777216 16777216

abbrev fits : SoftModulator → Bool → Type 0
fits m answer = record_fit_lem 10 m ≡ answer

-- all limits at once
highest : fits (made 80 loudest most fullest 33680832) true
unfolding record_fit_lem window_fit pulse_fit all_below of_bits le
highest = refl

-- "cursor past 80"
cursor_past : fits (made 81 loudest most fullest 33680832) false
unfolding record_fit_lem
cursor_past = refl

-- "a window value not within ±35,461"
value_past : fits (made 80 (set loudest 80 (of_bits binary32 0x470a_8501)) most fullest 33680832) false
unfolding record_fit_lem window_fit pulse_fit all_below of_bits le
value_past = refl

value_below : fits (made 80 (set loudest 0 (of_bits binary32 0xc70a_8501)) most fullest 33680832) false
unfolding record_fit_lem window_fit pulse_fit all_below of_bits le
value_below = refl

-- "A not-a-number is never within."
value_nan : fits (made 80 (set loudest 40 nan) most fullest 33680832) false
unfolding record_fit_lem window_fit pulse_fit all_below of_bits le
value_nan = refl

-- "length above 4,000; read place above length; padding above 122,400"
length_past : fits (made 80 loudest (progressed 4001 4000 122400) fullest 33680832) false
unfolding record_fit_lem window_fit pulse_fit all_below of_bits le
length_past = refl

place_past : fits (made 80 loudest (progressed 3999 4000 122400) fullest 33680832) false
unfolding record_fit_lem window_fit pulse_fit all_below of_bits le
place_past = refl

padding_past : fits (made 80 loudest (progressed 4000 4000 122401) fullest 33680832) false
unfolding record_fit_lem window_fit pulse_fit all_below of_bits le
padding_past = refl

-- "fill, capacity or latency above 16,777,216; capacity below fill"
fill_past : fits (made 80 loudest most (buffer_of 16777217 16777217 16777216) 33680832) false
unfolding record_fit_lem window_fit pulse_fit all_below of_bits le
fill_past = refl

capacity_past : fits (made 80 loudest most (buffer_of 16777216 16777217 16777216) 33680832) false
unfolding record_fit_lem window_fit pulse_fit all_below of_bits le
capacity_past = refl

latency_past : fits (made 80 loudest most (buffer_of 16777216 16777216 16777217) 33680832) false
unfolding record_fit_lem window_fit pulse_fit all_below of_bits le
latency_past = refl

capacity_below : fits (made 80 loudest most (buffer_of 16777216 16777215 16777216) 33680832) false
unfolding record_fit_lem window_fit pulse_fit all_below of_bits le
capacity_below = refl

-- "The record's limit for a reported end becomes 33,680,832"
end_past : fits (made 80 loudest most fullest 33680833) false
unfolding record_fit_lem window_fit pulse_fit all_below of_bits le
end_past = refl

-- ---- at 24 kHz: the window's first 41 places, document 02's numbers
abbrev Fits24 : SoftModulator → Bool → Type 0
Fits24 m answer = record_fit_lem 5 m ≡ answer

abbrev made24 : ℕ → List Float → Progress → OutputBuffer → ℕ → SoftModulator
made24 = made_at 24000

-- -35,461 in the last of the 41, and past them what no window holds
abbrev loudest24 : List Float
loudest24 = set (set loudest 40 (of_bits binary32 0xc70a_8500)) 41 nan

abbrev most24 : Progress
most24 = progressed 2000 2000 61200

highest24 : Fits24 (made24 40 loudest24 most24 fullest 33617632) true
unfolding record_fit_lem window_fit pulse_fit all_below of_bits le
highest24 = refl

cursor_past24 : Fits24 (made24 41 loudest24 most24 fullest 33617632) false
unfolding record_fit_lem
cursor_past24 = refl

value_past24 : Fits24 (made24 40 (set loudest24 40 (of_bits binary32 0x470a_8501)) most24 fullest 33617632) false
unfolding record_fit_lem window_fit pulse_fit all_below of_bits le
value_past24 = refl

length_past24 : Fits24 (made24 40 loudest24 (progressed 2001 2000 61200) fullest 33617632) false
unfolding record_fit_lem window_fit pulse_fit all_below of_bits le
length_past24 = refl

padding_past24 : Fits24 (made24 40 loudest24 (progressed 2000 2000 61201) fullest 33617632) false
unfolding record_fit_lem window_fit pulse_fit all_below of_bits le
padding_past24 = refl

end_past24 : Fits24 (made24 40 loudest24 most24 fullest 33617633) false
unfolding record_fit_lem window_fit pulse_fit all_below of_bits le
end_past24 = refl

-- "any rate but the two": 1 more or less is none
rate_past : fits (made_at 48001 80 loudest most fullest 33680832) false
unfolding record_fit_lem
rate_past = refl

rate_below : Fits24 (made_at 23999 40 loudest24 most24 fullest 33617632) false
unfolding record_fit_lem
rate_below = refl

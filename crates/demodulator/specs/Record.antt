-- The receiver's record: its window and its ring, and how the rules read them at a rate. Places and cursors are here, and in the first clauses of fitness. Assumes nothing.
use Rattle.std.specs.Prelude.{List, false, ℕ, ◌+◌, ◌-◌, ◌%◌, ℤ, pos, get_or, set, replicate, Float, None}
use Rattle.std.specs.Float.{nan, binary32}
use Rattle.std.specs.Float.Ieee.{of_bits}
use Rattle.shaping.specs.Rate.{Rate, at48, tap_count, window_places, ring_places}
use Rattle.shaping.specs.Sum.{dot, sample_from}
use Rattle.search.specs.declared.Candidate.TheVariants.{Nothing}
use Rattle.search.specs.declared.Control.{Control}
use Rattle.demodulator.specs.declared.SoftDemodulator.{SoftDemodulator}

abbrev pub fresh_control : Control
fresh_control = record { candidate = Nothing; wait = None; dcd = None; owed = false; sample = 0 }

-- "Samples before the first are 0. F(k) is 0.0 for k below 1."
-- The arrays have the lengths of 48 kHz at either rate.
unfoldable pub fresh : ℕ → SoftDemodulator
fresh rate = record {
  rate = rate;
  filter_win = replicate (window_places at48.p) (pos 0);
  filter_cursor = 0;
  rx_win = replicate (ring_places at48.p) (of_bits binary32 0);
  rx_cursor = 0;
  control = fresh_control;
}

abbrev pub with_control : Control → SoftDemodulator → SoftDemodulator
with_control c m = record {
  rate = m.rate;
  filter_win = m.filter_win;
  filter_cursor = m.filter_cursor;
  rx_win = m.rx_win;
  rx_cursor = m.rx_cursor;
  control = c;
}

-- a record by its parts, for functions that are lent the window and the ring
abbrev pub assembled : ℕ → List ℤ → ℕ → List Float → ℕ → Control → SoftDemodulator
assembled rate window windowCursor ring ringCursor c = record {
  rate = rate;
  filter_win = window;
  filter_cursor = windowCursor;
  rx_win = ring;
  rx_cursor = ringCursor;
  control = c;
}

-- ---- the window and the ring at p samples a symbol
-- the filtered value j samples ago, 0 the newest, for j below the ring's places: the newest lies before the ring's cursor (what `get_or` gives past the end is never read)
abbrev pub ring_back : ℕ → List Float → ℕ → ℕ → Float
ring_back p ring cursor j = get_or ring ((cursor + (ring_places p - 1 - j)) % ring_places p) nan

abbrev pub back : ℕ → SoftDemodulator → ℕ → Float
back p m = ring_back p m.rx_win m.rx_cursor

-- the window's samples by their age, the oldest 0: document 02 f), "the last 81 always lie side by side, oldest first"
abbrev pub view : SoftDemodulator → ℕ → ℤ
view m i = get_or m.filter_win (m.filter_cursor + i) (pos 0)

-- "store": the sample goes to the window's cursor, "twice, 81 places apart"; document 02 k): "keeps 41 samples, twice as in f)", ..
abbrev pub window_after : ℕ → SoftDemodulator → ℤ → List ℤ
window_after p m x = set (set m.filter_win m.filter_cursor x) (m.filter_cursor + tap_count p) x

-- .. and the tap sum of the last 81, which end at its second place, to the ring's
abbrev pub filtered_after : Rate → SoftDemodulator → ℤ → Float
filtered_after R m x = dot R.taps (sample_from (window_after R.p m x) (m.filter_cursor + 1))

unfoldable pub stored : Rate → SoftDemodulator → ℤ → SoftDemodulator
stored R m x = record {
  rate = m.rate;
  filter_win = window_after R.p m x;
  filter_cursor = (m.filter_cursor + 1) % tap_count R.p;
  rx_win = set m.rx_win m.rx_cursor (filtered_after R m x);
  rx_cursor = (m.rx_cursor + 1) % ring_places R.p;
  control = m.control;
}

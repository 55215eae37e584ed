-- What it is for a record to hold what the rules have heard. Assumes nothing.
use Rattle.std.specs.Prelude.{◌≡◌, true, List, ℕ, ◌+◌, ◌-◌, ◌≤◌, ◌<◌, ℤ, length}
use Rattle.shaping.specs.Rate.{Rate, per_second, tap_count, window_places, ring_places}
use Rattle.demodulator.specs.declared.SoftDemodulator.{SoftDemodulator}
use Rattle.demodulator.specs.Record.{back, view}
use Rattle.demodulator.specs.Fit.{halves_agree_lem}
use Rattle.demodulator_run.specs.Filter.{sample_no_lem, ago}
use Rattle.demodulator_run.specs.Rules.{History}

-- the window and the ring, where xs are all admitted samples: the last 81 of them (8p + 1), 0 before the first, kept twice, and the last 1,920 filtered values (192p), 0.0 before the first
pub record Remembers (R : Rate) (m : SoftDemodulator) (xs : List ℤ) : Type 0 where
  pub window_places_lem : window_places R.p ≤ length m.filter_win
  pub window_halves : halves_agree_lem R.p m.filter_win ≡ true
  pub window_cursor : m.filter_cursor < tap_count R.p
  pub window : (i : ℕ) → i < tap_count R.p → view m i ≡ sample_no_lem xs ((length xs + i + 1) - tap_count R.p)
  pub ring_places_lem : ring_places R.p ≤ length m.rx_win
  pub ring_cursor : m.rx_cursor < ring_places R.p
  pub ring : (j : ℕ) → j < ring_places R.p → back R.p m j ≡ ago R.taps R.p xs j

-- the whole record: candidate, wait, timer, what is owed and the count are the rules', and the count is the number of admitted samples
pub record Represents (R : Rate) (m : SoftDemodulator) (h : History) : Type 0 where
  pub rate : m.rate ≡ per_second R.p
  pub rings : Remembers R m h.samples
  pub control : m.control ≡ h.control
  pub count : m.control.sample ≡ length h.samples

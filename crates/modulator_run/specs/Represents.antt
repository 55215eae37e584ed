-- What it is for a record to hold what the rules have sent, at a rate. Assumes nothing.
use Rattle.std.specs.Prelude.{◌≡◌, List, ℕ, ◌+◌, ◌-◌, ◌*◌, ◌≤◌, ◌<◌, length, Float}
use Rattle.shaping.specs.Rate.{Rate, per_second, tap_count, store_places_lem}
use Rattle.shaping.specs.Sum.{value_at}
use Rattle.modulator.specs.declared.SoftModulator.{SoftModulator}
use Rattle.modulator.specs.Record.{stored_sample}
use Rattle.modulator_run.specs.Stream.{entering_at, sent_at}
use Rattle.modulator_run.specs.Rules.{Sent}

-- The window and the store, where `symbols` are those of all frames and the frame at hand begins after `before` samples: the last 81 values that entered (8p + 1), 0.0 before
-- the first, and the samples of the frame at hand. What the store holds past them is fixed by each call's promise.
pub record Remembers (R : Rate) (m : SoftModulator) (symbols : List Float) (before : ℕ) : Type 0 where
  pub window_places_lem : tap_count R.p ≤ length m.filter_win
  pub window_cursor : m.filter_cursor < tap_count R.p
  pub window : (i : ℕ) → i < tap_count R.p → value_at R.p m.filter_win m.filter_cursor i ≡ entering_at R.p symbols ((R.p * length symbols + i + 1) - tap_count R.p)
  pub store_places : store_places_lem R.p ≤ length m.next_transmission
  pub store : (i : ℕ) → i < m.progress.next_len → stored_sample m i ≡ sent_at R symbols (before + i + 1)
  -- the frame at hand is the end of the stream
  pub last : before + m.progress.next_len ≡ R.p * length symbols

-- the whole record: it says its rate, and length, read place, padding, what is pending and what the last update gave are the rules'
pub record Represents (R : Rate) (m : SoftModulator) (s : Sent) : Type 0 where
  pub rate : m.rate ≡ per_second R.p
  pub remembers : Remembers R m s.symbols s.before
  pub progress : m.progress ≡ s.progress
  pub pending : m.pending ≡ s.pending
  pub buffer : m.buffer ≡ s.buffer

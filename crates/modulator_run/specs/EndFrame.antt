-- "End of transmission appends 80 zero symbols: 2,720 samples, the last 729 zero, the window all zero after it, and a transmit end owed." Assumes nothing.
use Rattle.std.specs.Prelude.{◌≡◌, true, ℕ, ◌+◌, ◌-◌, ◌*◌, ◌<◌, pos, get_or}
use Rattle.std.specs.Float.{nan, binary32}
use Rattle.std.specs.Float.Ieee.{of_bits}
use Rattle.shaping.specs.Rate.{Rate, tap_count}
use Rattle.pulse.specs.Pulse.{pulses, sample_at}
use Rattle.modulator.specs.declared.SoftModulator.{SoftModulator}
use Rattle.modulator.specs.Paper.{done}
use Rattle.modulator.specs.Frame.{ending}
use Rattle.modulator.specs.Record.{line_of, stored_sample}
use Rattle.modulator.specs.Calls.{Left}

-- "80 zero symbols"
abbrev pub flush_symbols : ℕ
flush_symbols = 80

-- "2,720 samples"; document 02 k): "the end frame is 1,360 samples"
abbrev pub end_samples : ℕ → ℕ
end_samples p = p * (192 + flush_symbols)

-- "the last 729 zero": all but the last symbol's pulse and the 8p samples in which it leaves the window
abbrev pub silent_samples : ℕ → ℕ
silent_samples p = 73 * p - 1

-- what the end of transmission leaves, of the record m
pub record EndFrame (R : Rate) (m : SoftModulator) (left : Left) : Type 0 where
  pub answer : left.answer ≡ done
  pub number : left.modulator.progress.next_len ≡ end_samples R.p
  pub unread : left.modulator.progress.next_read ≡ 0
  pub samples : (i : ℕ) → i < end_samples R.p → stored_sample left.modulator i ≡ sample_at R (pulses R.p ending.symbol) (line_of m) i
  pub silence : (i : ℕ) → i < silent_samples R.p → stored_sample left.modulator ((end_samples R.p - silent_samples R.p) + i) ≡ pos 0
  pub window : (i : ℕ) → i < tap_count R.p → get_or left.modulator.filter_win i nan ≡ of_bits binary32 0
  pub owed : left.modulator.pending.calculate_tx_end ≡ true

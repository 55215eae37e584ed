-- The sender's record, and what a frame makes of it at a rate. Assumes nothing.
use Rattle.std.specs.Prelude.{ℕ, ◌*◌, ℤ, pos, get_or, replicate, Float}
use Rattle.std.specs.Float.{binary32}
use Rattle.std.specs.Float.Ieee.{of_bits}
use Rattle.numbers.specs.Firsts.{written}
use Rattle.shaping.specs.Rate.{Rate, at48, tap_count, store_places_lem}
use Rattle.pulse.specs.Pulse.{pulses, Line, after, sample_at}
use Rattle.modulator.specs.declared.Progress.{Progress}
use Rattle.modulator.specs.declared.Pending.{Pending}
use Rattle.modulator.specs.declared.OutputBuffer.{OutputBuffer}
use Rattle.modulator.specs.declared.SoftModulator.{SoftModulator}
use Rattle.modulator.specs.Frame.{Symbols}
use Rattle.modulator.specs.Control.{Control, fresh_control, restarted}

-- The arrays have the lengths of 48 kHz at either rate.
unfoldable pub fresh : ℕ → SoftModulator
fresh rate = record {
  rate = rate;
  next_transmission = replicate (store_places_lem at48.p) (pos 0);
  filter_win = replicate (tap_count at48.p) (of_bits binary32 0);
  filter_cursor = 0;
  progress = fresh_control.progress;
  pending = fresh_control.pending;
  buffer = fresh_control.buffer;
}

abbrev pub line_of : SoftModulator → Line
line_of m = record { window = m.filter_win; cursor = m.filter_cursor }

-- what it keeps besides the window and the store
abbrev pub control_of : SoftModulator → Control
control_of m = record { progress = m.progress; pending = m.pending; buffer = m.buffer }

-- sample i of the frame at hand (what `get_or` gives past the end is never read)
abbrev pub stored_sample : SoftModulator → ℕ → ℤ
stored_sample m i = get_or m.next_transmission i (pos 0)

abbrev pub with_progress : Progress → SoftModulator → SoftModulator
with_progress progress m = record {
  rate = m.rate;
  next_transmission = m.next_transmission;
  filter_win = m.filter_win;
  filter_cursor = m.filter_cursor;
  progress = progress;
  pending = m.pending;
  buffer = m.buffer;
}

abbrev pub with_pending : Pending → OutputBuffer → SoftModulator → SoftModulator
with_pending pending buffer m = record {
  rate = m.rate;
  next_transmission = m.next_transmission;
  filter_win = m.filter_win;
  filter_cursor = m.filter_cursor;
  progress = m.progress;
  pending = pending;
  buffer = buffer;
}

-- "Any other replaces unread samples: length and read place restart." The store past the new length is as it was, and so is the wish.
unfoldable pub framed : Rate → Symbols → ℕ → Pending → SoftModulator → SoftModulator
framed R s padding pending m =
    let e : ℕ → Float = pulses R.p s.symbol in
    let n : ℕ = R.p * s.count in
    record {
      rate = m.rate;
      next_transmission = written (sample_at R e (line_of m)) n m.next_transmission;
      filter_win = (after R.p e n (line_of m)).window;
      filter_cursor = (after R.p e n (line_of m)).cursor;
      progress = restarted R.p s.count padding;
      pending = pending;
      buffer = m.buffer;
    }

-- A read as the code does it, padding first and then the frame into the tail of the room, is the read of the rules. Assumes nothing.
use mathlib.Core.Path.{◌≡◌, ◌∙◌}
use mathlib.Core.List.{List, ◌++◌}
use Prim.Native.Nat.{ℕ, ◌+◌, ◌-◌, ◌≤◌, min}
use native.Mathlib.Omega.{arith}
use lib.IntN.{ℤ, pos}
use lib.ListN.{length, take, drop, length-drop}
use Rattle.numbers.specs.Firsts.{written}
use Rattle.modulator.specs.declared.SoftModulator.{SoftModulator}
use Rattle.modulator.specs.Paper.{wrote}
use Rattle.modulator.specs.Control.{zeros_read, samples_read, handed_out}
use Rattle.modulator.specs.Record.{stored_sample, with_progress}
use Rattle.modulator.specs.Calls.{left, drained}
use Rattle.modulator.proofs.Room.{same_value, tail_is, both_written}

-- what the two pieces are made of
abbrev silence : ℕ → ℤ
silence i = pos 0

abbrev unread : SoftModulator → ℕ → ℤ
unread m i = stored_sample m (m.progress.next_read + i)

module _ (m : SoftModulator) (room padded copied : List ℤ) (zeros samples : ℕ)
    (zeros-are : zeros ≡ zeros_read m.progress (length room))
    (padded-is : padded ≡ written silence zeros room)
    (samples_are : samples ≡ min (length (take (length padded - zeros) (drop zeros padded))) (m.progress.next_len - m.progress.next_read))
    (copied_is : copied ≡ written (unread m) samples (take (length padded - zeros) (drop zeros padded)))
  where
    room_holds : zeros ≤ length room
    room_holds = omega (arith, zeros-are)

    samples_read_lem : samples ≡ samples_read m.progress (length room)
    samples_read_lem = samples_are ∙ rw (padded-is, tail_is silence zeros room room_holds, length-drop, zeros-are)

    pub drained_is : drained m room
        ≡ left (wrote (zeros + samples))
        (with_progress (record { next_len = m.progress.next_len; next_read = m.progress.next_read + samples; tx_delay_padding = record { 0 = m.progress.tx_delay_padding.0 - zeros } }) m)
        (take zeros padded ++ (copied ++ drop (length padded - zeros) (drop zeros padded)))
    unfolding drained handed_out
    drained_is = rw (copied_is, padded-is, both_written silence zeros room room_holds (unread m) samples, samples_read_lem, zeros-are, same_value (pos 0) (pos 0) (zeros_read m.progress (length room)))

-- What a frame makes of the record, from what its symbols leave of the line and the store. Assumes nothing.
use mathlib.Core.Path.{◌≡◌, refl}
use mathlib.Core.List.{List}
use Prim.Native.Nat.{ℕ, ◌*◌, ◌<◌}
use lib.IntN.{ℤ}
use lib.Ieee.{Float, nan}
use Rattle.numbers.specs.Firsts.{firsts}
use Rattle.numbers.proofs.Firsts.{length_firsts, firsts_at}
use Rattle.shaping.specs.Rate.{Rate}
use Rattle.pulse.specs.Pulse.{pulses, listed, Line, Sent}
use Rattle.pulse.proofs.Pulses.{pulses_same}
use Rattle.pulse.proofs.Stream.{sent_same}
use Rattle.modulator.specs.declared.Pending.{Pending}
use Rattle.modulator.specs.declared.SoftModulator.{SoftModulator}
use Rattle.modulator.specs.Frame.{Symbols, listing}
use Rattle.modulator.specs.Control.{restarted}
use Rattle.modulator.specs.Record.{line_of, framed}

module _ (R : Rate) (padding : ℕ) (pending : Pending) (m : SoftModulator) where
  pub framed_from : (s : Symbols) (line : Line) (store : List ℤ) → Sent R (pulses R.p s.symbol) (R.p * s.count) (line_of m) m.next_transmission line store
      → record {
        rate = m.rate;
        next_transmission = store;
        filter_win = line.window;
        filter_cursor = line.cursor;
        progress = restarted R.p s.count padding;
        pending = pending;
        buffer = m.buffer;
      } ≡ framed R s padding pending m
  unfolding framed
  framed_from s line store sent = rw (sent.enters, sent.writes)

  sent_framed : (s : Symbols) → let r = framed R s padding pending m in
      Sent R (pulses R.p s.symbol) (R.p * s.count) (line_of m) m.next_transmission (line_of r) r.next_transmission
  unfolding framed
  sent_framed s = record { enters = refl; writes = refl }

  -- a frame is its symbols
  pub framed_same : (f g : ℕ → Float) (n : ℕ) → ((i : ℕ) → i < n → f i ≡ g i)
      → framed R (record { symbol = f; count = n }) padding pending m ≡ framed R (record { symbol = g; count = n }) padding pending m
  unfolding framed
  framed_same f g n h =
      framed_from (record { symbol = g; count = n }) _ _ (sent_same R _ _ (R.p * n) _ _ _ _ (pulses_same R.p f g n h) (sent_framed (record { symbol = f; count = n })))

  -- a list of a frame's symbols makes the frame
  pub framed_listed : (f : ℕ → Float) (n : ℕ) (symbols : List Float) → symbols ≡ firsts f n
      → framed R (listing symbols) padding pending m ≡ framed R (record { symbol = f; count = n }) padding pending m
  framed_listed f n symbols e = rw (e, length_firsts f n) (framed_same (listed (firsts f n)) f n (λ i l. firsts_at f n i nan l))

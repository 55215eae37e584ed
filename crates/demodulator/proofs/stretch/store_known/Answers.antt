-- `store_known` meets its contract. Assumes nothing.
use mir.Facts.{to_z-of_z}
use Rattle.demodulator.specs.Record.{stored}
use Rattle.demodulator.proofs.stretch.store_known.Goals as goal

pub returns : goal.returns
unfolding stored
returns c =
    let f = c.place_after-filter_next.ensures in
    let r = c.place_after-rx_next.ensures in
    record {
      inside = record { window_cursor = rw c.samples-per.ensures at f.0; ring_cursor = rw c.samples-per.ensures at r.0 };
      leaves = λ rate control value. rw (value, f.1, r.1, c.samples-per.ensures, to_z-of_z c.ranges.sample);
    }

-- `fit_for_sample` meets its contract: the ring is read once its cursor is known to lie inside. Assumes nothing.
use native.Mathlib.Omega.{arith}
use Rattle.demodulator.specs.Fit.{fit_for_sample_lem}
use Rattle.demodulator.proofs.Fitness.{tested_unfit, tested_fit, tested_inside, places_between}
use Rattle.demodulator.proofs.fit.fit_for_sample.Goals as goal

pub returns-then-not-record_fit : goal.returns-then-not-record_fit
unfolding fit_for_sample_lem
returns-then-not-record_fit c = λ rate window known same. rw (tested_unfit _ _ _ _ _ _ c.record_fit.ensures rate window c.args.rx_win.now known same c.if-not-record_fit.true-raw)

pub places_in_range-requires : goal.places_in_range-requires
places_in_range-requires c =
    let a = c.args in (
      tested_inside a.p a.halves a.filter_cursor a.rx_cursor a.control _ c.record_fit.ensures c.if-not-record_fit.false-raw,
      omega arith,
      rw c.places_read-count.ensures (places_between a.control.wait).1,
    )

pub returns : goal.returns
unfolding fit_for_sample_lem
returns c =
    λ rate window known same. rw (tested_fit _ _ _ _ _ _ c.record_fit.ensures rate window c.args.rx_win.now known same c.if-not-record_fit.false-raw, c.places_in_range.ensures, c.places_read-count.ensures, c.samples-newest.ensures)

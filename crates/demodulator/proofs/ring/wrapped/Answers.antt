-- `wrapped` meets its contract: the two laws of a turn. Assumes nothing.
use native.Mathlib.Omega.{arith}
use Rattle.shaping.specs.Rate.{ring_places}
use Rattle.demodulator.proofs.Wrap.{wrap_below, wrap_above}
use Rattle.demodulator.proofs.ring.wrapped.Goals as goal

pub returns-then-place-places : goal.returns-then-place-places
returns-then-place-places c =
    let a = c.args in
    (omega arith, wrap_below (ring_places a.p) a.place (omega arith))

pub returns-else-place-places : goal.returns-else-place-places
returns-else-place-places c =
    let a = c.args in
    (omega arith, rw c.samples-places.ensures (wrap_above (ring_places a.p) a.place (omega arith) (omega arith)))

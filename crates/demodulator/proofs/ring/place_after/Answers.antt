-- `place_after` meets its contract. Assumes nothing.
use Prim.Native.Nat.{◌+◌}
use native.Mathlib.Omega.{arith}
use Rattle.demodulator.proofs.Wrap.{wrap_below, wrap_end}
use Rattle.demodulator.proofs.ring.place_after.Goals as goal

pub returns-then-next-places : goal.returns-then-next-places
returns-then-next-places c =
    let a = c.args in
    (omega arith, wrap_end a.places (a.at + 1) (omega arith))

pub returns-else-next-places : goal.returns-else-next-places
returns-else-next-places c =
    let a = c.args in
    (omega arith, wrap_below a.places (a.at + 1) (omega arith))

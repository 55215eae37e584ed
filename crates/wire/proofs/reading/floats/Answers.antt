-- `reading::floats` meets its contract: after i turns the first i places are written. Assumes nothing.
use mathlib.Core.Path.{refl}
use native.Mathlib.Numerals.{add-one}
use native.Mathlib.Omega.{arith}
use lib.Ieee.{nan}
use Rattle.numbers.specs.Firsts.{firsts}
use Rattle.numbers.proofs.Firsts.{written_step}
use Rattle.wire.specs.Bytes.{float_at}
use Rattle.wire.proofs.Slices.{filled}
use Rattle.wire.proofs.reading.floats.Goals as goal

pub loop-i-init : goal.loop-i-init
unfolding firsts
loop-i-init c = refl

pub loop-i-preserved : goal.loop-i-preserved
loop-i-preserved c =
    let l = c.loop-i in
    let a = c.args in
    rw (l.invariant, c.float.ensures, add-one l.i) (written_step (float_at a.from.now) l.i a.to.now nan (omega arith))

pub returns : goal.returns
returns c =
    let l = c.loop-i in
    filled (float_at c.args.from.now) l.i c.args.to.now l.to (omega arith) l.invariant (omega arith)

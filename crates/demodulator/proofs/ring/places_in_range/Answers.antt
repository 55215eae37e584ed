-- `places_in_range` meets its contract: after j values, the answer is that of the first j. Assumes nothing.
use mathlib.Core.Path.{refl}
use Prim.Native.Nat.{◌<◌}
use native.Mathlib.Nat.{mul-le-mul_left}
use native.Mathlib.Numerals.{add-one}
use native.Mathlib.Omega.{arith}
use Rattle.numbers.specs.Below.{all_below}
use Rattle.demodulator.proofs.ring.places_in_range.Goals as goal

pub loop-j-init : goal.loop-j-init
unfolding all_below
loop-j-init c = refl

pub overflow_mul-ago : goal.overflow_mul-ago
overflow_mul-ago c =
    let below : c.loop-j.j < 191 = omega arith in
    omega (arith, mul-le-mul_left c.samples-per.result below)

pub overflow_add-ago : goal.overflow_add-ago
overflow_add-ago c =
    let below : c.loop-j.j < 191 = omega arith in
    omega (arith, mul-le-mul_left c.samples-per.result below)

pub value_back-requires : goal.value_back-requires
value_back-requires c =
    let below : c.loop-j.j < 191 = omega arith in
    omega (arith, mul-le-mul_left c.samples-per.result below)

pub loop-j-preserved : goal.loop-j-preserved
unfolding all_below
loop-j-preserved c =
    let l = c.loop-j in
    rw (add-one l.j, l.invariant, c.in_range-all.ensures, c.value_back.ensures, c.samples-per.ensures)

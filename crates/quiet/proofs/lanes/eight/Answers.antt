-- `eight` meets its contract: after i turns the first i places are written. Assumes nothing.
use mathlib.Core.Path.{refl}
use Prim.Native.Nat.{◌<◌}
use native.Mathlib.Numerals.{add-one}
use native.Mathlib.Omega.{arith}
use lib.ListN.{replicate}
use lib.Ieee.{nan, binary32, of_bits}
use Rattle.numbers.specs.Firsts.{firsts}
use Rattle.numbers.proofs.Firsts.{written_step}
use Rattle.look.specs.Marks.{eight_from}
use Rattle.quiet.proofs.lanes.eight.Goals as goal

pub loop-i-init : goal.loop-i-init
unfolding firsts
loop-i-init c = refl

pub loop-i-preserved : goal.loop-i-preserved
loop-i-preserved c =
    let l = c.loop-i in
    let a = c.args in
    let below : l.i < 8 = omega arith in
    rw (l.invariant, add-one l.i) (written_step (eight_from a.p a.row.now a.at) l.i (replicate 8 (of_bits binary32 0)) nan below)

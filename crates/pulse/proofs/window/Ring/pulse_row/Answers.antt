-- `pulse_row` meets its contract: after i turns the first i places are written. Assumes nothing.
use mathlib.Core.Path.{refl}
use Prim.Native.Nat.{◌<◌}
use native.Mathlib.Numerals.{add-one}
use native.Mathlib.Omega.{arith}
use lib.ListN.{replicate}
use lib.Ieee.{nan, binary32, of_bits}
use Rattle.numbers.specs.Firsts.{firsts}
use Rattle.numbers.proofs.Firsts.{written_step}
use Rattle.pulse.proofs.window.Ring.pulse_row.Invariants.{row_from}
use Rattle.pulse.proofs.window.Ring.pulse_row.Goals as goal

pub loop-i-init : goal.loop-i-init
unfolding firsts
loop-i-init c = refl

pub loop-i-preserved : goal.loop-i-preserved
loop-i-preserved c =
    let l = c.loop-i in
    let a = c.args in
    let f = row_from a.self.now.p a.self.now.values a.self.now.cursor a.symbols.now a.first in
    let below : l.i < 56 = omega arith in
    rw (l.invariant, c.nth_pulse.ensures, add-one l.i) (written_step f l.i (replicate 56 (of_bits binary32 0)) nan below)

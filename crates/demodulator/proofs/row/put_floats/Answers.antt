-- `put_floats` meets its contract: after i turns the first i places are written. Assumes nothing.
use mathlib.Core.Path.{refl}
use native.Mathlib.Numerals.{add-one}
use native.Mathlib.Omega.{arith}
use mir.Syntax.{w16}
use mir.Facts.{to_z-of_z}
use borrow.Author.Rules.{sfits_of}
use lib.IntN.{pos}
use lib.ListN.{get_or}
use lib.Ieee.{nan}
use Rattle.numbers.specs.Firsts.{firsts}
use Rattle.numbers.proofs.Firsts.{written_step}
use Rattle.shaping.specs.Sum.{sample_in}
use Rattle.demodulator.proofs.row.put_floats.Goals as goal

pub loop-i-init : goal.loop-i-init
unfolding firsts
loop-i-init c = refl

pub loop-i-preserved : goal.loop-i-preserved
loop-i-preserved c =
    let a = c.args in
    let i = c.loop-i.i in
    let back = to_z-of_z {w = w16} {z = get_or a.samples.now i (pos 0)} (sfits_of c.room-1.given) in
    rw (add-one i, back, c.loop-i.invariant) (written_step (sample_in a.samples.now) i a.room.now nan (omega arith))

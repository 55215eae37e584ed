-- `put_symbol` meets its contract: after j turns the first j places are written. Assumes nothing.
use mathlib.Core.Path.{refl}
use native.Mathlib.Numerals.{add-one}
use native.Mathlib.Omega.{arith}
use mir.Syntax.{w16}
use mir.Facts.{to_z-of_z}
use borrow.Author.Rules.{rules}
use lib.IntN.{pos}
use Rattle.numbers.specs.Firsts.{firsts}
use Rattle.numbers.proofs.Firsts.{written_step}
use Rattle.pulse.proofs.samples.put_symbol.Invariants.{of_phase}
use Rattle.pulse.proofs.samples.put_symbol.Goals as goal

pub loop-j-init : goal.loop-j-init
unfolding firsts
loop-j-init c = refl

pub loop-j-preserved : goal.loop-j-preserved
loop-j-preserved c =
    let a = c.args in
    let f = of_phase a.cuts.now a.s in
    let back = to_z-of_z {w = w16} {z = f c.loop-j.j} (search rules) in
    rw (add-one c.loop-j.j, back, c.loop-j.invariant) (written_step f c.loop-j.j a.room.now (pos 0) (omega arith))

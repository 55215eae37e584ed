-- `reading::samples` meets its contract: after i turns the first i places are written. Assumes nothing.
use mathlib.Core.Path.{refl}
use native.Mathlib.Numerals.{add-one}
use native.Mathlib.Omega.{arith}
use mir.Syntax.{w16}
use mir.Facts.{to_z-of_z}
use lib.IntN.{pos}
use Rattle.numbers.specs.Firsts.{firsts}
use Rattle.numbers.proofs.Firsts.{written_step}
use Rattle.wire.specs.Bytes.{sample_at}
use Rattle.wire.proofs.Slices.{filled}
use Rattle.wire.proofs.reading.samples.Goals as goal

pub loop-i-init : goal.loop-i-init
unfolding firsts
loop-i-init c = refl

pub loop-i-preserved : goal.loop-i-preserved
loop-i-preserved c =
    let l = c.loop-i in
    let a = c.args in
    let back = to_z-of_z {w = w16} {z = c.sample.result} (record { sfits = c.sample.type_inv }) in
    rw (l.invariant, back, c.sample.ensures, add-one l.i) (written_step (sample_at a.from.now) l.i a.to.now (pos 0) (omega arith))

pub returns : goal.returns
returns c =
    let l = c.loop-i in
    filled (sample_at c.args.from.now) l.i c.args.to.now l.to (omega arith) l.invariant (omega arith)

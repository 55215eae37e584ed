-- `put_cuts` meets its contract: after k turns the first k places are written. Assumes nothing.
use mathlib.Core.Path.{refl}
use native.Mathlib.Numerals.{add-one}
use native.Mathlib.Omega.{arith}
use mir.Syntax.{w16}
use mir.ValLaws.{to_z-of_z}
use lib.IntN.{pos}
use Rattle.numbers.specs.Firsts.{firsts}
use Rattle.numbers.proofs.Firsts.{written_step}
use Rattle.pulse.proofs.phases.put_cuts.Invariants.{cut_at}
use Rattle.pulse.proofs.phases.put_cuts.Goals as goal

pub loop-k-init : goal.loop-k-init
unfolding firsts
loop-k-init c = refl

pub loop-k-preserved : goal.loop-k-preserved
loop-k-preserved c =
    let a = c.args in
    let k = c.loop-k.k in
    let back = to_z-of_z w16 c.cut_to_i16.result (record { sfits = c.cut_to_i16.type_inv }) in
    rw (add-one k, back, c.cut_to_i16.ensures, c.loop-k.invariant) (written_step (cut_at a.sums.now) k a.room.now (pos 0) (omega arith))

-- `is_still` meets its contract: after i turns the answer is that of the first i values. Assumes nothing.
use mathlib.Core.Path.{◌≡◌, refl, ◌∙◌}
use native.Mathlib.Numerals.{add-one}
use native.Mathlib.Omega.{arith}
use lib.ListN.{length}
use Rattle.numbers.specs.Below.{all_below}
use Rattle.bulk.specs.Sums.{is_still_lem}
use Rattle.bulk.proofs.is_still.Goals as goal

pub loop-value-init : goal.loop-value-init
unfolding all_below
loop-value-init c = refl

pub loop-value-preserved : goal.loop-value-preserved
unfolding all_below
loop-value-preserved c =
    let l = c.loop-value in
    rw (add-one l.value-index, l.invariant)

pub returns : goal.returns
unfolding is_still_lem
returns c =
    let l = c.loop-value in
    let done : l.value-index ≡ length c.args.row.now = omega arith in
    l.invariant ∙ rw done

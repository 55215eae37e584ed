-- `has_mark` meets its contract: after k turns the answer is that of the first k marks. Assumes nothing.
use mathlib.Core.Path.{◌≡◌}
use native.Mathlib.Omega.{arith}
use Rattle.quiet.proofs.lanes.has_mark.Goals as goal

pub returns : goal.returns
returns c =
    let done : c.loop-mark.mark-index ≡ 48 = omega arith in
    rw done at c.loop-mark.invariant

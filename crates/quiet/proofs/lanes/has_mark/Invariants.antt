-- `has_mark` meets its contract: after k turns the answer is that of the first k marks. Assumes nothing.
use mathlib.Core.Path.{◌≡◌}
use lib.Dec.{leb}
use lib.ListN.{get_or}
use Rattle.numbers.specs.Below.{any_below}
use Rattle.quiet.proofs.lanes.has_mark.Given as goal

abbrev pub invariant-loop-mark : goal.invariant-loop-mark
invariant-loop-mark l = l.any ≡ any_below l.mark-index (λ j. leb l.least (get_or l.marks j 0))

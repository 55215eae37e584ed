-- `eight` meets its contract: after i turns the first i places are written. Assumes nothing.
use mathlib.Core.Path.{◌≡◌}
use Rattle.numbers.specs.Firsts.{written}
use Rattle.look.specs.Marks.{eight_from}
use Rattle.quiet.proofs.lanes.eight.Given as goal

abbrev pub invariant-loop-i : goal.invariant-loop-i
invariant-loop-i l = l.value-items ≡ written (eight_from l.p l.row l.at) l.i l.initial.value-items

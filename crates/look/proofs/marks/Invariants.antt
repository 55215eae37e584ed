-- `marks` meets its contract: after k turns the first k marks are written. Assumes nothing.
use mathlib.Core.Path.{◌≡◌}
use Rattle.numbers.specs.Firsts.{written}
use Rattle.look.specs.Marks.{mark_of, eight_from}
use Rattle.look.proofs.marks.Given as goal

abbrev pub invariant-loop-k : goal.invariant-loop-k
invariant-loop-k l = l.found ≡ written (λ j. mark_of (eight_from l.p l.row j)) l.k l.initial.found

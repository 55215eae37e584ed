-- `sums::sum_totals` meets its contract. Assumes nothing.
use mathlib.Core.Path.{◌≡◌}
use Rattle.numbers.specs.Firsts.{written}
use Rattle.figures.specs.Totals.{summed_at}
use Rattle.figures.proofs.sums.sum_totals.Given as goal

abbrev pub invariant-loop-i : goal.invariant-loop-i
invariant-loop-i l = l.total-items ≡ written (summed_at l.fn.a l.fn.b) l.i l.fn.a

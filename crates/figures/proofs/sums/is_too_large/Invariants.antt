-- `sums::is_too_large` meets its contract. Assumes nothing.
use mathlib.Core.Path.{◌≡◌}
use mathlib.Core.Bool.{true}
use lib.ListN.{length}
use Rattle.numbers.specs.Below.{all_below}
use Rattle.figures.proofs.TotalLaws.{sum_fit_at}
use Rattle.figures.proofs.sums.is_too_large.Given as goal

abbrev pub invariant-loop-total : goal.invariant-loop-total
invariant-loop-total l = all_below (length l.yielded) (sum_fit_at l.fn.a l.fn.b) ≡ true

-- `shaping::sum_samples` meets its contract. The loop's invariant: the sum so far is that of the products passed. Assumes nothing.
use mathlib.Core.Path.{◌≡◌}
use lib.ListN.{length}
use Rattle.shaping.specs.Sum.{sample_in}
use Rattle.shaping.proofs.Dot.{so_far}
use Rattle.shaping.proofs.sum_samples.Given as goal

abbrev pub invariant-loop-tap : goal.invariant-loop-tap
invariant-loop-tap l = l.out ≡ so_far l.table (sample_in l.part) (length l.yielded)

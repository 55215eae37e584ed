-- `is_in_range` meets its contract: after i turns the answer is that of the first i values. Assumes nothing.
use mathlib.Core.Path.{◌≡◌}
use Rattle.numbers.specs.Below.{all_below}
use Rattle.decode.specs.Correlator.{in_range}
use Rattle.decode.specs.Parts.{values_of}
use Rattle.look.proofs.is_in_range.Given as goal

abbrev pub invariant-loop-value : goal.invariant-loop-value
invariant-loop-value l = l.all ≡ all_below l.value-index (λ j. in_range (values_of l.row j))

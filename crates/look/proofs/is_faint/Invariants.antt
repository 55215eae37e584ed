-- `is_faint` meets its contract: after i turns the answer is that of the first i values. Assumes nothing.
use mathlib.Core.Path.{◌≡◌}
use Rattle.numbers.specs.Below.{all_below}
use Rattle.decode.specs.Parts.{values_of}
use Rattle.look.specs.Rows.{value_faint}
use Rattle.look.proofs.is_faint.Given as goal

abbrev pub invariant-loop-value : goal.invariant-loop-value
invariant-loop-value l = l.all ≡ all_below l.value-index (λ j. value_faint (values_of l.row j))

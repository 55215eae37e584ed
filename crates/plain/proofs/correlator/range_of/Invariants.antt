-- `range_of` meets its contract: after value i, the two are the largest and the smallest of those up to i. Assumes nothing.
use mathlib.Core.Path.{◌≡◌}
use Rattle.decode.specs.Correlator.{highest, lowest}
use Rattle.decode.specs.Parts.{values_of}
use Rattle.plain.specs.Values.{unsigned}
use Rattle.plain.proofs.correlator.range_of.Given as goal

abbrev pub invariant-loop-value : goal.invariant-loop-value
invariant-loop-value l = (l.max ≡ highest (unsigned (values_of l.fn.values)) l.value-index) × (l.min ≡ lowest (unsigned (values_of l.fn.values)) l.value-index)

-- `extremes` meets its contract: after value i, the two are the highest and the lowest of those up to i. Assumes nothing.
use mathlib.Core.Path.{◌≡◌}
use Rattle.decode.specs.Correlator.{highest, lowest}
use Rattle.decode.specs.Parts.{values_of}
use Rattle.decode.proofs.correlator.extremes.Given as goal

abbrev pub invariant-loop-value : goal.invariant-loop-value
invariant-loop-value l = (l.high ≡ highest (values_of l.fn.values) l.value-index) × (l.low ≡ lowest (values_of l.fn.values) l.value-index)

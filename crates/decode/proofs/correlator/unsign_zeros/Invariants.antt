-- `unsign_zeros` meets its contract: the places written are those of the list that is asked for. Assumes nothing.
use mathlib.Core.Path.{◌≡◌}
use mathlib.Core.List.{map, ◌++◌}
use lib.ListN.{take, drop}
use Rattle.decode.specs.Correlator.{zero_unsigned}
use Rattle.decode.proofs.correlator.unsign_zeros.Given as goal

abbrev pub invariant-loop-value : goal.invariant-loop-value
invariant-loop-value l = l.value-items ≡ map zero_unsigned (take l.value-index l.fn.values) ++ drop l.value-index l.fn.values

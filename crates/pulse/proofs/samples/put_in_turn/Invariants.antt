-- `put_in_turn` meets its contract: after s turns the samples of the first s symbols are written. Assumes nothing.
use mathlib.Core.Path.{◌≡◌}
use Prim.Native.Nat.{◌*◌}
use Rattle.numbers.specs.Firsts.{written}
use Rattle.pulse.specs.Phases.{in_turn}
use Rattle.pulse.proofs.samples.put_in_turn.Given as goal

abbrev pub invariant-loop-s : goal.invariant-loop-s
invariant-loop-s l = l.room ≡ written (in_turn l.p l.cuts) (l.p * l.s) l.initial.room

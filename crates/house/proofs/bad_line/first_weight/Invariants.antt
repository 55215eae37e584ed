-- `bad_line::first_weight` meets its contract: the weight that is found, times the first weight of what is left, is the first weight of n. Assumes nothing.
use mathlib.Core.Path.{◌≡◌}
use Prim.Native.Nat.{◌≤◌, ◌*◌, ◌^◌}
use Rattle.house.specs.BadLine.{tens}
use Rattle.house.proofs.bad_line.first_weight.Given as goal

abbrev pub invariant-loop-rest : goal.invariant-loop-rest
invariant-loop-rest l = (l.weight * l.rest ≤ l.n) × (l.weight * 10 ^ tens l.rest ≡ 10 ^ tens l.n)

abbrev pub decreases-loop-rest : goal.decreases-loop-rest
decreases-loop-rest l = l.rest

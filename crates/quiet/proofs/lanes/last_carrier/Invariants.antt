-- `last_carrier` meets its contract: none of the samples that were looked at carries. Assumes nothing.
use mathlib.Core.Path.{◌≡◌}
use mathlib.Core.Bool.{false}
use Prim.Native.Nat.{ℕ, ◌+◌, ◌≤◌, ◌<◌}
use Rattle.look.specs.Marks.{eight_from}
use Rattle.quiet.specs.Parts.{carries}
use Rattle.quiet.proofs.lanes.last_carrier.Given as goal

abbrev pub invariant-loop-k : goal.invariant-loop-k
invariant-loop-k l = (i : ℕ) → l.k ≤ i → i < l.n → carries (eight_from l.p l.row (l.at + i)) ≡ false

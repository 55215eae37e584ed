-- `bad_line::bad_line_text` meets its contract: the text is written up to `at`, and the weight is that of the digit to come. Assumes nothing.
use mathlib.Core.Path.{◌≡◌}
use Prim.Native.Nat.{◌≤◌, ◌-◌, ◌+◌}
use lib.ListN.{length}
use Rattle.numbers.specs.Firsts.{written}
use Rattle.house.specs.BadLine.{tens}
use Rattle.house.proofs.Places.{empty, byte_at, weight_at}
use Rattle.house.proofs.bad_line.bad_line_text.Given as goal

abbrev pub invariant-loop-weight : goal.invariant-loop-weight
invariant-loop-weight l =
    (9 ≤ l.at) × (l.at ≤ 10 + tens l.n) × (l.weight ≡ weight_at (tens l.n) l.at) × (length l.bytes ≡ 40) × (l.bytes ≡ written (byte_at l.n) l.at (empty 40))

abbrev pub decreases-loop-weight : goal.decreases-loop-weight
decreases-loop-weight l = 10 + tens l.n - l.at

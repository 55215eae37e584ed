-- `tap_sums` meets its contract: after i turns each sum has its first i products, and within a turn the first k sums have one more. Assumes
-- nothing.
use mathlib.Core.List.{List}
use Prim.Native.Nat.{ℕ}
use lib.ListN.{get_or}
use lib.Ieee.{Float, binary32, mul}
use Rattle.numbers.specs.Sum.{nought}
use Rattle.numbers.proofs.Lanes.{Lanes}
use Rattle.bulk.specs.Sums.{value_from}
use Rattle.bulk.proofs.tap_sums.Given as goal

-- the product of tap i in the sum k
abbrev product : List Float → List Float → ℕ → ℕ → Float
product table row k i = mul binary32 (get_or table i nought) (value_from row k i)

abbrev pub invariant-loop-k : goal.invariant-loop-k
invariant-loop-k l = Lanes binary32 48 (product l.table l.row) l.i l.k l.sums

abbrev pub invariant-loop-i : goal.invariant-loop-i
invariant-loop-i l = Lanes binary32 48 (product l.table l.row) l.i 0 l.sums

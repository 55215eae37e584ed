-- `is_still` meets its contract: after i turns the answer is that of the first i values. Assumes nothing.
use mathlib.Core.Path.{◌≡◌}
use Prim.Native.Nat.{ℕ}
use lib.ListN.{get_or}
use lib.Ieee.{nan, binary32, of_bits, eq}
use Rattle.numbers.specs.Below.{all_below}
use Rattle.bulk.proofs.is_still.Given as goal

abbrev pub invariant-loop-value : goal.invariant-loop-value
invariant-loop-value l = l.all ≡ all_below l.value-index (λ (j : ℕ). eq (get_or l.row j nan) (of_bits binary32 0))

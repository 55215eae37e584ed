-- `put_cuts` meets its contract: after k turns the first k places are written. Assumes nothing.
use mathlib.Core.Path.{◌≡◌}
use mathlib.Core.List.{List}
use Prim.Native.Nat.{ℕ}
use lib.IntN.{ℤ}
use lib.ListN.{get_or}
use lib.Ieee.{Float, nan, to_signed}
use Rattle.numbers.specs.Firsts.{written}
use Rattle.pulse.proofs.phases.put_cuts.Given as goal

abbrev pub cut_at : List Float → ℕ → ℤ
cut_at sums k = to_signed 15 (get_or sums k nan)

abbrev pub invariant-loop-k : goal.invariant-loop-k
invariant-loop-k l = l.room ≡ written (cut_at l.sums) l.k l.initial.room

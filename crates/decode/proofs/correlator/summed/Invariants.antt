-- `summed` meets its contract: up to symbol i no distance lies above 0.3, and the diff is their sum. Assumes nothing.
use mathlib.Core.Path.{◌≡◌}
use mathlib.Core.Bool.{Bool, false}
use Prim.Native.Nat.{ℕ}
use lib.ListN.{length}
use lib.Ieee.{Float, binary32, lt}
use Rattle.numbers.specs.Below.{any_below}
use Rattle.numbers.specs.Sum.{sum_to}
use Rattle.decode.specs.Correlator.{farthest, distances}
use Rattle.decode.specs.Parts.{values_of}
use Rattle.decode.proofs.correlator.summed.Given as goal

-- whether distance i lies above the threshold
abbrev pub too_far : (ℕ → Float) → ℕ → Bool
too_far d i = lt farthest (d i)

abbrev pub invariant-loop-sign : goal.invariant-loop-sign
invariant-loop-sign l =
    let d : ℕ → Float = distances l.fn.target l.fn.gain l.fn.shift (values_of l.fn.values) in
    let n : ℕ = length l.yielded in
    (any_below n (too_far d) ≡ false) × (l.diff ≡ sum_to binary32 d n)

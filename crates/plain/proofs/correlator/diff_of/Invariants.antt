-- `diff_of` meets its contract: up to symbol i no distance lies above 0.3, and the diff is their sum. Assumes nothing.
use mathlib.Core.Path.{◌≡◌}
use mathlib.Core.Bool.{Bool, false}
use Prim.Native.Nat.{ℕ}
use lib.ListN.{length}
use lib.Ieee.{Float, binary32, lt}
use Rattle.numbers.specs.Below.{any_below}
use Rattle.numbers.specs.Sum.{sum_to}
use Rattle.decode.specs.Correlator.{farthest, distances}
use Rattle.decode.specs.Parts.{values_of}
use Rattle.plain.specs.Values.{unsigned}
use Rattle.plain.proofs.correlator.diff_of.Given as goal

-- whether distance i lies above the threshold
abbrev pub too_far : (ℕ → Float) → ℕ → Bool
too_far d i = lt farthest (d i)

abbrev pub invariant-loop-value : goal.invariant-loop-value
invariant-loop-value l =
    let d : ℕ → Float = distances l.fn.signs l.gain l.shift (unsigned (values_of l.fn.values)) in
    (any_below (length l.yielded) (too_far d) ≡ false) × (l.diff ≡ sum_to binary32 d (length l.yielded))

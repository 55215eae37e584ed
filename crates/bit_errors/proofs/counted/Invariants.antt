-- `counted` meets its contract. The loop's invariant: the count so far and that of the rest are the count of all. Assumes nothing.
use mathlib.Core.Path.{◌≡◌}
use mathlib.Core.List.{List}
use Prim.Native.Nat.{ℕ, ◌+◌, ◌*◌, ◌≤◌}
use lib.ListN.{length, drop}
use lib.Ieee.{Float}
use Rattle.bit_errors.specs.Errors.{bits_of, differences}
use Rattle.bit_errors.proofs.counted.Given as goal

-- the count from place i on
abbrev pub count_from : List Float → List Float → ℕ → ℕ
count_from sent received i = differences (bits_of (drop i sent)) (bits_of (drop i received))

abbrev pub invariant-loop-a : goal.invariant-loop-a
invariant-loop-a l =
    let n : ℕ = length l.yielded in
    (n ≤ 184) × (l.count ≤ 2 * n) × (l.count + count_from l.sent l.received n ≡ count_from l.sent l.received 0)

-- `places_in_range` meets its contract: after j values, the answer is that of the first j. Assumes nothing.
use mathlib.Core.Path.{◌≡◌}
use Prim.Native.Nat.{ℕ, ◌+◌, ◌*◌}
use Rattle.numbers.specs.Below.{all_below}
use Rattle.decode.specs.Correlator.{in_range}
use Rattle.demodulator.specs.Record.{ring_back}
use Rattle.demodulator.proofs.ring.places_in_range.Given as goal

abbrev pub invariant-loop-j : goal.invariant-loop-j
invariant-loop-j l = l.all ≡ all_below l.j (λ (k : ℕ). in_range (ring_back l.p l.ring l.cursor (l.p * k + l.newest)))

-- A match's value lies on its target's side of the shift, for every finite shift and every gain above zero. A value on the other side, or on the shift, has a symbol on the
-- other side of zero, or zero, and that is 1 at least from the target. Assumes nothing.
use mathlib.Core.Path.{refl}
use mathlib.Core.Bool.{Bool, true, false, not}
use Prim.Native.Nat.{ℕ, ◌+◌, ◌*◌, ◌<◌, zero-le}
use native.Mathlib.Omega.{arith}
use lib.IntN.{pos, negsuc}
use lib.Dec.{T}
use lib.Ieee.{Float, of_bits, of_int, round, sub, lt}
use lib.Ieee.Scale.{finite}
use lib.Ieee.Positive.{den}
use Rattle.numbers.specs.Choice.{size_of}
use Rattle.numbers.specs.Within.{plus_if, minus_if, plus, minus}
use Rattle.decode.specs.Correlator.{farthest, distance_of}
use Rattle.decode.proofs.Scale.{Scale}
use Rattle.decode.proofs.Direction.{signed, Ordered, Beyond, toward_cross, beyond_unless}
use Rattle.decode.proofs.Clear.{Far, clear_of}

zero_far : (s : Bool) → Far s s 0
unfolding round of_int sub size_of lt of_bits
zero_far false = record { end_finite = tt; off_finite = tt; side = refl; far = tt }
zero_far true = record { end_finite = tt; off_finite = tt; side = refl; far = tt }

none : (s : Bool) (a b : ℕ) → Ordered s (plus_if s 0 * a * 8 + minus_if s 0 * b) (plus_if s 0 * b + minus_if s 0 * a * 8)
none false a b = omega arith
none true a b = omega arith

by_zero : (s : Bool) (a b c k : ℕ) → Ordered s a (b + c) → Ordered s (a + minus_if s 0 * k) (c + b + plus_if s 0 * k)
by_zero false a b c k h = omega arith
by_zero true a b c k h = omega arith

pub side_of : (g h : Float) → Scale g h → (s : Bool) (v : Float) → T (finite v) → T (not (lt farthest (distance_of g h (signed s) v))) → Beyond s h v
side_of g h S s v K near =
    beyond_unless s h v S.shift_finite K λ t.
    clear_of g h S s v K near s 0 0 zero-le (zero_far s) (none s (den g) (plus g)) (by_zero s _ (plus h * den v) (minus v * den h) (den v * den h) (toward_cross s v h K S.shift_finite t))

module _ (gain shift value : Float) (G : T (finite gain)) (P : 0 < plus gain) (H : T (finite shift)) (K : T (finite value)) where
  pub side_of_plus : T (not (lt farthest (distance_of gain shift (pos 1) value))) → T (lt shift value)
  side_of_plus = side_of gain shift (record { gain_finite = G; gain_above = P; shift_finite = H }) false value K

  pub side_of_minus : T (not (lt farthest (distance_of gain shift (negsuc 0) value))) → T (lt value shift)
  side_of_minus = side_of gain shift (record { gain_finite = G; gain_above = P; shift_finite = H }) true value K

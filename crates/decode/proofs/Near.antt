-- A distance that is not above 0.3, for every finite shift and every gain above zero: the difference, the symbol and the distance are then finite, since an infinite one
-- makes an infinite distance and none is not-a-number. Assumes nothing.
use mathlib.Core.Path.{◌≡◌, refl}
use mathlib.Core.Bool.{Bool, true, false, not}
use Prim.Native.Nat.{◌<◌}
use native.Mathlib.Nat.{lt_irrefl}
use lib.Dec.{T, T_not, lit≤}
use lib.Ieee.{Float, nan, inf, fin, Format, binary32, of_bits, of_int, add, sub, div, neg, lt, le}
use lib.Ieee.Scale.{finite}
use Rattle.numbers.specs.Choice.{size_of}
use Rattle.numbers.specs.Within.{plus, Within}
use Rattle.numbers.proofs.Order.{nlt→le, le_self}
use Rattle.numbers.proofs.Keeps.{sub_keeps, div_keeps}
use Rattle.numbers.proofs.Bounds.{size_within, size_le_within}
use Rattle.decode.specs.Correlator.{farthest, symbol_of, distance_of}
use Rattle.decode.proofs.Scale.{Scale}
use Rattle.decode.proofs.Direction.{signed}

-- ---- an infinity stays one, and is far
inf_div : (f : Format) (s : Bool) (y : Float) → T (finite y) → 0 < plus y → div f (inf s) y ≡ inf s
unfolding div
inf_div f s nan p h = absurd p
inf_div f s (inf t) p h = absurd p
inf_div f s (fin true m e) p h = absurd (lt_irrefl 0 h)
inf_div f true (fin false m e) p h = refl
inf_div f false (fin false m e) p h = refl

inf_sub : (f : Format) (s : Bool) (y : Float) → T (finite y) → sub f (inf s) y ≡ inf s
unfolding sub add neg
inf_sub f s nan p = absurd p
inf_sub f s (inf t) p = absurd p
inf_sub f s (fin t m e) p = refl

endless_far : (s : Bool) → T (lt farthest (size_of (inf s)))
unfolding size_of lt of_bits
endless_far s = tt

number_finite : (x : Float) → T (le x x) → ((s : Bool) → x ≡ inf s → ⊥) → T (finite x)
unfolding le
number_finite nan h n = h
number_finite (inf s) h n = absurd (n s refl)
number_finite (fin s m e) h n = tt

pub target_finite : (s : Bool) → T (finite (of_int binary32 (signed s)))
unfolding of_int
target_finite false = tt
target_finite true = tt

pub size_finite : (x : Float) → T (finite x) → T (finite (size_of x))
unfolding size_of
size_finite nan p = p
size_finite (inf s) p = p
size_finite (fin s m e) p = tt

pub farthest_finite : T (finite farthest)
unfolding of_bits
farthest_finite = tt

-- ---- what is near is finite
module _ (g h : Float) (S : Scale g h) (s : Bool) (v : Float) (K : T (finite v)) (near : T (not (lt farthest (distance_of g h (signed s) v)))) where
  far_off : T (lt farthest (distance_of g h (signed s) v)) → ⊥
  far_off = T_not (lt farthest (distance_of g h (signed s) v)) near

  pub difference_finite : T (finite (sub binary32 v h))
  unfolding distance_of symbol_of
  difference_finite = number_finite (sub binary32 v h) (sub_keeps binary32 v v K K (le_self v K) h h S.shift_finite S.shift_finite (le_self h S.shift_finite))
      λ t e. far_off (rw (e, inf_div binary32 t g S.gain_finite S.gain_above, inf_sub binary32 t (of_int binary32 (signed s)) (target_finite s)) (endless_far t))

  pub symbol_finite : T (finite (symbol_of g h v))
  unfolding distance_of symbol_of
  symbol_finite =
      let d = sub binary32 v h in
      number_finite (div binary32 d g) (div_keeps binary32 d d difference_finite difference_finite (le_self d difference_finite) g S.gain_finite S.gain_above)
      λ t e. far_off (rw (e, inf_sub binary32 t (of_int binary32 (signed s)) (target_finite s)) (endless_far t))

  pub gap_finite : T (finite (sub binary32 (symbol_of g h v) (of_int binary32 (signed s))))
  unfolding distance_of
  gap_finite =
      let w = symbol_of g h v in
      let c = of_int binary32 (signed s) in
      number_finite (sub binary32 w c) (sub_keeps binary32 w w symbol_finite symbol_finite (le_self w symbol_finite) c c (target_finite s) (target_finite s) (le_self c (target_finite s)))
      λ t e. far_off (rw e (endless_far t))

  pub distance_finite : T (finite (distance_of g h (signed s) v))
  unfolding distance_of
  distance_finite = size_finite (sub binary32 (symbol_of g h v) (of_int binary32 (signed s))) gap_finite

  pub distance_le : T (le (distance_of g h (signed s) v) farthest)
  distance_le = nlt→le farthest (distance_of g h (signed s) v) farthest_finite distance_finite near

  pub distance_within : Within (distance_of g h (signed s) v) 1
  unfolding distance_of of_bits
  distance_within =
      let e = sub binary32 (symbol_of g h v) (of_int binary32 (signed s)) in
      size_within e 1 (size_le_within e farthest 1 (tt, lit≤ tt) distance_le)

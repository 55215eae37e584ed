-- A symbol's two bits: below four, and the slicer gives back those of each of the four symbols. Assumes nothing.
use mathlib.Core.Path.{◌≡◌, refl}
use mathlib.Core.Bool.{Bool, true, false, cond}
use mathlib.Core.List.{List, [], ◌∷◌}
use Prim.Native.Nat.{ℕ, ◌<◌}
use native.Mathlib.Omega.{arith}
use lib.Dec.{eqb, eqb→eq, lit<}
use lib.IntN.{pos}
use lib.ListN.{get_or}
use lib.Ieee.{Float, binary32, of_bits, of_int, lt, le, eq, div}
use Rattle.numbers.specs.Below.{all_below}
use Rattle.numbers.proofs.Below.{all_below_lem}
use Rattle.decode.specs.Slicer.{sliced, outer, outer_below}
use Rattle.house.specs.Line.{symbol_of, bits_of}

-- each bit is 0 or 1
abbrev picked : Bool → Bool → Bool → List ℕ
picked a b c = cond a (0 ∷ 1 ∷ []) (cond b (0 ∷ 0 ∷ []) (cond c (1 ∷ 0 ∷ []) (1 ∷ 1 ∷ [])))

pub bits_two : (x : Float) → (get_or (sliced x) 0 0 < 2) × (get_or (sliced x) 1 0 < 2)
unfolding sliced
bits_two x = by_test (lt outer x) (lt (of_bits binary32 0) x) (lt outer_below x)
  where
    by_test : (a b c : Bool) → (get_or (picked a b c) 0 0 < 2) × (get_or (picked a b c) 1 0 < 2)
    by_test true b c = (lit< tt, lit< tt)
    by_test false true c = (lit< tt, lit< tt)
    by_test false false true = (lit< tt, lit< tt)
    by_test false false false = (lit< tt, lit< tt)

pub bits_below : (x : Float) → bits_of x < 4
unfolding bits_of
bits_below x = omega (arith, (bits_two x).0, (bits_two x).1)

pub bits_of_symbol : (b : ℕ) → b < 4 → bits_of (symbol_of b) ≡ b
bits_of_symbol b l = eqb→eq (bits_of (symbol_of b)) b (all_below_lem 4 (λ i. eqb (bits_of (symbol_of i)) i) (unfold all_below bits_of symbol_of sliced lt le eq of_bits in tt) b l)

-- "1/3 .. as f32" is the quotient, rounded once
pub one_third : symbol_of 0 ≡ div binary32 (of_int binary32 (pos 1)) (of_int binary32 (pos 3))
unfolding symbol_of div of_int of_bits
one_third = refl

-- The number of places at which two lists differ, and the bits of a payload. Assumes nothing.
use mathlib.Core.Path.{◌≡◌, refl, sym, ap, ◌∙◌}
use mathlib.Core.Bool.{Bool, true, false, cond}
use mathlib.Core.List.{List, [], ◌∷◌, ◌++◌, append_assoc}
use Prim.Native.Nat.{ℕ, ◌+◌, ◌*◌, ◌≤◌}
use native.Mathlib.Omega.{arith}
use borrow.Author.Tests.{eqb-true, eqb-false, eq-eqb, ne_eqb}
use lib.Dec.{eqb}
use lib.ListN.{length, length-append}
use lib.Ieee.{Float, binary32, of_bits, lt}
use Rattle.decode.specs.Slicer.{sliced, outer, outer_below}
use Rattle.bit_errors.specs.Errors.{bits_of, differ, differences}

-- ---- two bits
pub differ_few : (a b : ℕ) → differ a b ≤ 1
differ_few a b = go (eqb a b)
  where
    go : (t : Bool) → cond t 0 1 ≤ 1
    go true = omega arith
    go false = omega arith

differ_symmetric : (a b : ℕ) → differ a b ≡ differ b a
differ_symmetric a b = go (eqb a b) refl
  where
    go : (t : Bool) → eqb a b ≡ t → differ a b ≡ differ b a
    go true e = rw (e, eq-eqb b a (sym (eqb-true a b e)))
    go false e = rw (e, ne_eqb b a (λ same. eqb-false a b e (sym same)))

differ_none : (a : ℕ) → differ a a ≡ 0
differ_none a = rw (eq-eqb a a refl)

differ_same : (a b : ℕ) → differ a b ≡ 0 → a ≡ b
differ_same a b = go (eqb a b) refl
  where
    go : (t : Bool) → eqb a b ≡ t → differ a b ≡ 0 → a ≡ b
    go true e z = eqb-true a b e
    go false e z = let one : differ a b ≡ 1 = rw e in absurd (omega arith)

-- ---- two lists
pub symmetric : (xs ys : List ℕ) → differences xs ys ≡ differences ys xs
unfolding differences
symmetric [] [] = refl
symmetric [] (b ∷ ys) = refl
symmetric (a ∷ xs) [] = refl
symmetric (a ∷ xs) (b ∷ ys) = rw (differ_symmetric a b, symmetric xs ys)

pub few : (xs ys : List ℕ) → differences xs ys ≤ length xs
unfolding differences
few [] ys = omega arith
few (a ∷ xs) [] = omega arith
few (a ∷ xs) (b ∷ ys) = omega (arith, differ_few a b, few xs ys)

pub none : (xs : List ℕ) → differences xs xs ≡ 0
unfolding differences
none [] = refl
none (a ∷ xs) = omega (arith, differ_none a, none xs)

pub same : (xs ys : List ℕ) → length xs ≡ length ys → differences xs ys ≡ 0 → xs ≡ ys
unfolding differences
same [] [] l z = refl
same [] (b ∷ ys) l z = absurd (omega arith)
same (a ∷ xs) [] l z = absurd (omega arith)
same (a ∷ xs) (b ∷ ys) l z =
    let head : a ≡ b = differ_same a b (omega arith) in
    let tail : xs ≡ ys = same xs ys (omega arith) (omega arith) in
    cc

pub joined : (xs ys cs ds : List ℕ) → length xs ≡ length ys → differences (xs ++ cs) (ys ++ ds) ≡ differences xs ys + differences cs ds
unfolding differences
joined [] [] cs ds l = omega arith
joined [] (b ∷ ys) cs ds l = absurd (omega arith)
joined (a ∷ xs) [] cs ds l = absurd (omega arith)
joined (a ∷ xs) (b ∷ ys) cs ds l = omega (arith, joined xs ys cs ds (omega arith))

-- ---- the bits of a payload
pub two_bits : (x : Float) → length (sliced x) ≡ 2
unfolding sliced
two_bits x = go (lt outer x) (lt (of_bits binary32 0) x) (lt outer_below x)
  where
    go : (s t u : Bool) → length {A = ℕ} (cond s (0 ∷ 1 ∷ []) (cond t (0 ∷ 0 ∷ []) (cond u (1 ∷ 0 ∷ []) (1 ∷ 1 ∷ [])))) ≡ 2
    go true t u = refl
    go false true u = refl
    go false false true = refl
    go false false false = refl

pub number_of_bits : (xs : List Float) → length (bits_of xs) ≡ 2 * length xs
unfolding bits_of
number_of_bits [] = refl
number_of_bits (x ∷ xs) = omega (arith, length-append (sliced x) (bits_of xs), two_bits x, number_of_bits xs)

pub bits_joined : (xs ys : List Float) → bits_of (xs ++ ys) ≡ bits_of xs ++ bits_of ys
unfolding bits_of
bits_joined [] ys = refl
bits_joined (x ∷ xs) ys = ap (λ (bits : List ℕ). sliced x ++ bits) (bits_joined xs ys) ∙ sym (append_assoc (sliced x) (bits_of xs) (bits_of ys))

-- a symbol's bits before the others
pub first_symbol : (x y : Float) (xs ys : List Float) → differences (bits_of (x ∷ xs)) (bits_of (y ∷ ys)) ≡ differences (sliced x) (sliced y) + differences (bits_of xs) (bits_of ys)
unfolding bits_of
first_symbol x y xs ys = joined (sliced x) (sliced y) (bits_of xs) (bits_of ys) (two_bits x ∙ sym (two_bits y))

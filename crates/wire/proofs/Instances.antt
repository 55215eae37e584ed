-- Small instances of the laws with hypotheses, at the two bytes of 0x1234: what the laws ask can be met. Assumes nothing.
use mathlib.Core.Path.{◌≡◌, refl}
use mathlib.Core.List.{List, [], ◌∷◌}
use Prim.Native.Nat.{ℕ}
use lib.Dec.{lit<, lit≤}
use lib.ListN.{get_or}
use lib.Seq.{sets}
use Rattle.numbers.specs.Firsts.{firsts}
use Rattle.wire.specs.Bytes.{low_first, lows}
use Rattle.wire.proofs.Bytes.{two_bytes, lows_two}
use Rattle.wire.proofs.Slices.{sets_outside, laid_as_far, filled}

abbrev two : List ℕ
two = 0x34 ∷ 0x12 ∷ []

-- ---- the number of bytes
two_bytes_meets : 0x1234 ≡ low_first two
two_bytes_meets = two_bytes two refl

lows_two_meets : two ≡ lows 2 0x1234
lows_two_meets = lows_two 0x1234 (lit< tt)

-- ---- bytes laid in a slice past its end
sets_outside_meets : sets (7 ∷ []) 1 two ≡ 7 ∷ []
sets_outside_meets = sets_outside two (7 ∷ []) 1 (lit≤ tt)

laid_as_far_meets : 7 ∷ 0x34 ∷ [] ≡ sets (7 ∷ 7 ∷ []) 1 two
laid_as_far_meets = laid_as_far two (7 ∷ 7 ∷ []) 1 1 1 refl refl

-- ---- a room of two places, written to its end
filled_meets : two ≡ firsts (λ (i : ℕ). get_or two i 0) 2
unfolding firsts
filled_meets = filled (λ (i : ℕ). get_or two i 0) 2 (7 ∷ 7 ∷ []) two (lit≤ tt) refl (lit≤ tt)

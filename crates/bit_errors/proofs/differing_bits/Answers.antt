-- `differing_bits` meets its contract. Assumes nothing.
use mathlib.Core.Path.{◌≡◌}
use mathlib.Core.List.{List, [], ◌∷◌}
use Prim.Native.Nat.{ℕ, ◌+◌}
use native.Mathlib.Omega.{arith}
use lib.ListN.{length, get_or}
use Rattle.decode.specs.Slicer.{sliced}
use Rattle.bit_errors.specs.Errors.{differ, differences}
use Rattle.bit_errors.proofs.Counts.{two_bits}
use Rattle.bit_errors.proofs.differing_bits.Goals as goal

-- two lists of two, place by place
in_pairs : (xs ys : List ℕ) → length xs ≡ 2 → length ys ≡ 2 → differ (get_or xs 0 0) (get_or ys 0 0) + differ (get_or xs 1 0) (get_or ys 1 0) ≡ differences xs ys
unfolding differences
in_pairs (a ∷ b ∷ []) (c ∷ d ∷ []) l m = omega arith
in_pairs [] ys l m = absurd (omega arith)
in_pairs (a ∷ []) ys l m = absurd (omega arith)
in_pairs (a ∷ b ∷ e ∷ xs) ys l m = absurd (omega arith)
in_pairs (a ∷ b ∷ []) [] l m = absurd (omega arith)
in_pairs (a ∷ b ∷ []) (c ∷ []) l m = absurd (omega arith)
in_pairs (a ∷ b ∷ []) (c ∷ d ∷ f ∷ ys) l m = absurd (omega arith)

pub returns : goal.returns
returns c =
    let a = sliced c.args.a in
    let b = sliced c.args.b in
    let first : c.differs-first.result ≡ differ (get_or a 0 0) (get_or b 0 0) = rw (← c.decode_sample-x.ensures, ← c.decode_sample-y.ensures) c.differs-first.ensures.0 in
    let second : c.differs-second.result ≡ differ (get_or a 1 0) (get_or b 1 0) = rw (← c.decode_sample-x.ensures, ← c.decode_sample-y.ensures) c.differs-second.ensures.0 in
    (rw (first, second) (in_pairs a b (two_bits _) (two_bits _)), omega (arith, c.differs-first.ensures.1, c.differs-second.ensures.1))

-- At most one of the six bursts matches eight values within ±1,000,000. Any two of them differ in a sign, and both would put the same value on its side of the same shift.
-- Assumes nothing.
use mathlib.Core.Path.{◌≡◌}
use mathlib.Core.Logic.{inl, inr}
use mathlib.Core.Bool.{Bool, true, false, not, ◌||◌}
use mathlib.Core.List.{List}
use Prim.Native.Nat.{ℕ, ◌<◌}
use native.Mathlib.Omega.{arith}
use lib.IntN.{ℤ}
use lib.Dec.{T, eqb, eqb→eq}
use lib.Ieee.{Float, lt}
use lib.Ieee.Scale.{finite}
use Rattle.numbers.specs.Below.{any_below, all_below}
use Rattle.numbers.proofs.Below.{or_split}
use Rattle.protocol.specs.declared.SyncBurst.{SyncBurst}
use Rattle.protocol.specs.Bursts.{signs_of}
use Rattle.decode.specs.Correlator.{farthest, distances, matches, in_range}
use Rattle.decode.proofs.Scale.{Scale}
use Rattle.decode.proofs.Places.{meets, Place, place, unopposed}
use Rattle.decode.proofs.Table.{rank, same_rank, rank_below, for_each_two}
use Rattle.decode.proofs.Opened.{unsigned_at, gain_at, shift_at, opened}
use Rattle.decode.proofs.RangeFacts.{value_unsigned, scale}

-- the signs +1 and -1 at one place of both
unfoldable pub differ : List ℤ → List ℤ → Bool
unfolding meets
differ ss ts = meets (λ i. i) 8 false true ss ts || meets (λ i. i) 8 true false ss ts

-- for every finite shift and every gain above zero
pub not_both : (g h : Float) → Scale g h → (ss ts : List ℤ) → T (differ ss ts) → (u : ℕ → Float) → ((i : ℕ) → i < 8 → T (finite (u i)))
    → ((i : ℕ) → i < 8 → T (not (lt farthest (distances ss g h u i)))) → ((i : ℕ) → i < 8 → T (not (lt farthest (distances ts g h u i)))) → ⊥
unfolding differ
not_both g h S ss ts d u fine p q =
    let at : (a b : Bool) → T (meets (λ i. i) 8 a b ss ts) → Place g h g h a b = place (λ i. i) 8 ss ts g h g h u fine p q in
    elim (or_split (meets (λ i. i) 8 false true ss ts) (meets (λ i. i) 8 true false ss ts) d) [ inl t ↦ unopposed false g h S (at false true t) | inr t ↦ unopposed true g h S (at true false t) ]

-- the table
all_differ : (b c : SyncBurst) → T (eqb (rank b) (rank c) || differ (signs_of b) (signs_of c))
all_differ b c = for_each_two 6 (λ b c. eqb (rank b) (rank c) || differ (signs_of b) (signs_of c)) (unfold all_below any_below differ signs_of in tt) b c (rank_below b) (rank_below c)

pub one_match : (v : ℕ → Float) → ((i : ℕ) → i < 8 → T (in_range (v i))) → (b c : SyncBurst) → T (matches b v) → T (matches c v) → b ≡ c
one_match v range b c p q =
    let x = opened b v p in
    let y = opened c v q in
    elim (or_split (eqb (rank b) (rank c)) (differ (signs_of b) (signs_of c)) (all_differ b c)) [
      | inl e ↦ same_rank b c (eqb→eq (rank b) (rank c) e)
      | inr d ↦ absurd (not_both (gain_at v) (shift_at v) (scale v range x.strong) (signs_of b) (signs_of c) d (unsigned_at v) (λ i l. (value_unsigned v range i (omega arith)).0) x.near y.near)
    ]

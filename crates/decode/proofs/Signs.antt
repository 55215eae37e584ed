-- The signs of the bursts, by computed tests over the table: each is +1 or -1, and each burst has both. Assumes nothing.
use mathlib.Core.Path.{◌≡◌, ap}
use mathlib.Core.Logic.{inl, inr}
use mathlib.Core.Bool.{Bool, true, false, ◌||◌}
use Prim.Native.Nat.{ℕ, ◌<◌}
use lib.IntN.{ℤ, pos, negsuc}
use lib.ListN.{get_or}
use lib.Dec.{T, eqb, eqb→eq}
use Rattle.numbers.specs.Below.{any_below, all_below}
use Rattle.numbers.proofs.Below.{or_split, any_below_lem, all_below_lem}
use Rattle.protocol.specs.declared.SyncBurst.{SyncBurst}
use Rattle.protocol.specs.Bursts.{signs_of}
use Rattle.decode.proofs.Direction.{signed}
use Rattle.decode.proofs.Table.{rank_below, for_each}

unfoldable pub is_sign : Bool → ℤ → Bool
is_sign false (pos n) = eqb n 1
is_sign false (negsuc n) = false
is_sign true (pos n) = false
is_sign true (negsuc n) = eqb n 0

pub is_sign_lem : (a : Bool) (z : ℤ) → T (is_sign a z) → z ≡ signed a
unfolding is_sign
is_sign_lem false (pos n) h = ap pos (eqb→eq n 1 h)
is_sign_lem false (negsuc n) h = absurd h
is_sign_lem true (pos n) h = absurd h
is_sign_lem true (negsuc n) h = ap negsuc (eqb→eq n 0 h)

all_signs : (b : SyncBurst) → T (all_below 8 (λ i. is_sign false (get_or (signs_of b) i (pos 0)) || is_sign true (get_or (signs_of b) i (pos 0))))
all_signs b = for_each 6 (λ a. all_below 8 (λ i. is_sign false (get_or (signs_of a) i (pos 0)) || is_sign true (get_or (signs_of a) i (pos 0)))) (unfold all_below is_sign signs_of in tt) b (rank_below b)

pub sign_at : (b : SyncBurst) (i : ℕ) → i < 8 → (s : Bool) × (get_or (signs_of b) i (pos 0) ≡ signed s)
sign_at b i l =
    let z = get_or (signs_of b) i (pos 0) in
    elim (or_split (is_sign false z) (is_sign true z) (all_below_lem 8 _ (all_signs b) i l)) [ inl h ↦ (false, is_sign_lem false z h) | inr h ↦ (true, is_sign_lem true z h) ]

both_signs : (s : Bool) (b : SyncBurst) → T (any_below 8 (λ i. is_sign s (get_or (signs_of b) i (pos 0))))
both_signs false b = for_each 6 (λ a. any_below 8 (λ i. is_sign false (get_or (signs_of a) i (pos 0)))) (unfold all_below any_below is_sign signs_of in tt) b (rank_below b)
both_signs true b = for_each 6 (λ a. any_below 8 (λ i. is_sign true (get_or (signs_of a) i (pos 0)))) (unfold all_below any_below is_sign signs_of in tt) b (rank_below b)

pub sign_held : (s : Bool) (b : SyncBurst) → (i : ℕ) × (i < 8) × (get_or (signs_of b) i (pos 0) ≡ signed s)
sign_held s b =
    let r = any_below_lem 8 (λ i. is_sign s (get_or (signs_of b) i (pos 0))) (both_signs s b) in
    (r.0, r.1, is_sign_lem s (get_or (signs_of b) r.0 (pos 0)) r.2)

-- No two kinds, the same or different, match one symbol apart: the two share seven values, the second's i being the first's suc i. Two of these would have to stand one way
-- round and the other, by order alone; for BERT before Stream and Packet before LSF the widths of the two would have to outdo one another. Assumes nothing.
use mathlib.Core.Logic.{inl, inr}
use mathlib.Core.Bool.{Bool, true, false, not, ◌&&◌, ◌||◌}
use mathlib.Core.List.{List}
use Prim.Native.Nat.{ℕ, suc, ◌<◌}
use native.Mathlib.Omega.{arith}
use lib.IntN.{ℤ}
use lib.Dec.{T}
use lib.Ieee.{Float, lt}
use lib.Ieee.Fits.{and_l, and_r}
use lib.Ieee.Scale.{finite}
use Rattle.numbers.specs.Below.{any_below, all_below}
use Rattle.numbers.proofs.Below.{or_split}
use Rattle.protocol.specs.declared.Kind.{Kind}
use Rattle.protocol.specs.declared.SyncBurst.TheVariants.{Frame}
use Rattle.protocol.specs.Bursts.{signs_of}
use Rattle.decode.specs.Correlator.{farthest, distances, matches, in_range}
use Rattle.decode.proofs.Scale.{Scale, Sized}
use Rattle.decode.proofs.Places.{meets, Place, place, uncrossed, unspread}
use Rattle.decode.proofs.Table.{kind_below, for_each, for_each_two}
use Rattle.decode.proofs.Opened.{unsigned_at, gain_at, shift_at, Opened, opened}
use Rattle.decode.proofs.RangeFacts.{value_unsigned, scale, sized}

-- the signs a and b at one of the seven places
unfoldable pub shares : Bool → Bool → List ℤ → List ℤ → Bool
unfolding meets
shares a b ss ts = meets suc 7 a b ss ts

-- two places whose signs are opposite in the two, one each way
unfoldable pub crossed : List ℤ → List ℤ → Bool
unfolding shares
crossed ss ts = shares false true ss ts && shares true false ss ts

-- one whose sign is s in the first alone, and one of each sign that stays
unfoldable pub spread : Bool → List ℤ → List ℤ → Bool
unfolding shares
spread s ss ts = shares s (not s) ss ts && (shares (not s) (not s) ss ts && shares s s ss ts)

module _ (g h g' h' : Float) (S : Scale g h) (S' : Scale g' h') (ss ts : List ℤ) (u : ℕ → Float) (fine : (i : ℕ) → i < 7 → T (finite (u (suc i))))
    (p : (i : ℕ) → i < 7 → T (not (lt farthest (distances ss g h u (suc i))))) (q : (i : ℕ) → i < 7 → T (not (lt farthest (distances ts g' h' (λ j. u (suc j)) i)))) where
  shared : (a b : Bool) → T (shares a b ss ts) → Place g h g' h' a b
  unfolding shares
  shared = place suc 7 ss ts g h g' h' u fine p q

  pub not_crossed : T (crossed ss ts) → ⊥
  unfolding crossed
  not_crossed t =
      let x = shares false true ss ts in
      let y = shares true false ss ts in
      uncrossed g h g' h' S S' (shared false true (and_l x y t)) (shared true false (and_r x y t))

  pub not_spread : Sized g → Sized g' → (s : Bool) → T (spread s ss ts) → ⊥
  unfolding spread
  not_spread Z Z' s t =
      let a = shares s (not s) ss ts in
      let b = shares (not s) (not s) ss ts in
      let c = shares s s ss ts in
      let r = and_r a (b && c) t in
      unspread g h g' h' S S' s Z Z' (shared s (not s) (and_l a (b && c) t)) (shared (not s) (not s) (and_l b c r)) (shared s s (and_r b c r))

-- ---- the table
-- each kind with itself: by order alone
all_crossed : (k : Kind) → T (crossed (signs_of (Frame k)) (signs_of (Frame k)))
all_crossed k = for_each 4 (λ b. crossed (signs_of b) (signs_of b)) (unfold all_below any_below crossed signs_of in tt) (Frame k) (kind_below k)

-- any two
parted : List ℤ → List ℤ → Bool
parted ss ts = crossed ss ts || (spread false ss ts || spread true ss ts)

all_parted : (j k : Kind) → T (parted (signs_of (Frame j)) (signs_of (Frame k)))
all_parted j k = for_each_two 4 (λ b c. parted (signs_of b) (signs_of c)) (unfold all_below any_below parted crossed spread signs_of in tt) (Frame j) (Frame k) (kind_below j) (kind_below k)

-- ---- nine values, one symbol apart
module _ (v : ℕ → Float) (range : (i : ℕ) → i < 9 → T (in_range (v i))) (j k : Kind) (p : T (matches (Frame j) v)) (q : T (matches (Frame k) (λ i. v (suc i)))) where
  first : Opened (Frame j) v
  first = opened (Frame j) v p

  second : Opened (Frame k) (λ i. v (suc i))
  second = opened (Frame k) (λ i. v (suc i)) q

  first_range : (i : ℕ) → i < 8 → T (in_range (v i))
  first_range i l = range i (omega arith)

  second_range : (i : ℕ) → i < 8 → T (in_range (v (suc i)))
  second_range i l = range (suc i) (omega arith)

  first_scale : Scale (gain_at v) (shift_at v)
  first_scale = scale v first_range first.strong

  second_scale : Scale (gain_at (λ i. v (suc i))) (shift_at (λ i. v (suc i)))
  second_scale = scale (λ i. v (suc i)) second_range second.strong

  shared_finite : (i : ℕ) → i < 7 → T (finite (unsigned_at v (suc i)))
  shared_finite i l = (value_unsigned v first_range (suc i) (omega arith)).0

  by_order : T (crossed (signs_of (Frame j)) (signs_of (Frame k))) → ⊥
  by_order =
      not_crossed _ _ _ _ first_scale second_scale (signs_of (Frame j)) (signs_of (Frame k)) (unsigned_at v) shared_finite
      (λ i l. first.near (suc i) (omega arith)) (λ i l. second.near i (omega arith))

  by_widths : (s : Bool) → T (spread s (signs_of (Frame j)) (signs_of (Frame k))) → ⊥
  by_widths =
      not_spread _ _ _ _ first_scale second_scale (signs_of (Frame j)) (signs_of (Frame k)) (unsigned_at v) shared_finite
      (λ i l. first.near (suc i) (omega arith)) (λ i l. second.near i (omega arith)) (sized v first_range first.strong) (sized (λ i. v (suc i)) second_range second.strong)

pub not_again : (v : ℕ → Float) → ((i : ℕ) → i < 9 → T (in_range (v i))) → (k : Kind) → T (matches (Frame k) v) → T (matches (Frame k) (λ i. v (suc i))) → ⊥
not_again v range k p q = by_order v range k k p q (all_crossed k)

pub never_apart : (v : ℕ → Float) → ((i : ℕ) → i < 9 → T (in_range (v i))) → (j k : Kind) → T (matches (Frame j) v) → T (matches (Frame k) (λ i. v (suc i))) → ⊥
unfolding parted
never_apart v range j k p q =
    let a = crossed (signs_of (Frame j)) (signs_of (Frame k)) in
    let b : Bool → Bool = λ s. spread s (signs_of (Frame j)) (signs_of (Frame k)) in
    elim (or_split a (b false || b true) (all_parted j k)) [
      | inl t ↦ by_order v range j k p q t
      | inr t ↦ elim (or_split (b false) (b true) t) [ inl u ↦ by_widths v range j k p q false u | inr u ↦ by_widths v range j k p q true u ]
    ]

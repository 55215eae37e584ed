-- A value that is near a target of each of two bursts, in two scales, and what such values rule out. Assumes nothing.
use mathlib.Core.Bool.{Bool, true, false, not, ◌&&◌}
use mathlib.Core.List.{List}
use Prim.Native.Nat.{ℕ, ◌<◌}
use native.Mathlib.Omega.{arith}
use lib.IntN.{ℤ, pos}
use lib.ListN.{get_or}
use lib.Dec.{T}
use lib.Ieee.{Float, lt}
use lib.Ieee.Fits.{and_l, and_r}
use lib.Ieee.Scale.{finite}
use Rattle.numbers.specs.Below.{any_below}
use Rattle.numbers.proofs.Below.{any_below_lem}
use Rattle.decode.specs.Correlator.{farthest, distance_of, distances}
use Rattle.decode.proofs.Scale.{Scale, Sized}
use Rattle.decode.proofs.Direction.{signed, one_side, never_both, lt_trans}
use Rattle.decode.proofs.Signs.{is_sign, is_sign_lem}
use Rattle.decode.proofs.Side.{side_of}
use Rattle.decode.proofs.Gaps.{way_round, way_flip}
use Rattle.decode.proofs.Widths.{most_le, further_than_least, short_of_most}

-- At one of n places the second burst has the sign b, and the first, whose place `at i` is the second's i, the sign a.
unfoldable pub meets : (ℕ → ℕ) → ℕ → Bool → Bool → List ℤ → List ℤ → Bool
unfolding is_sign
meets at n a b ss ts = any_below n (λ i. is_sign a (get_or ss (at i) (pos 0)) && is_sign b (get_or ts i (pos 0)))

-- a value near the target of the sign a by the gain g and the shift h, and near that of b by g' and h'
pub record Place (g h g' h' : Float) (a b : Bool) : Type 0 where
  value : Float
  fine : T (finite value)
  here : T (not (lt farthest (distance_of g h (signed a) value)))
  there : T (not (lt farthest (distance_of g' h' (signed b) value)))

module _ (at : ℕ → ℕ) (n : ℕ) (ss ts : List ℤ) (g h g' h' : Float) (u : ℕ → Float) (fine : (i : ℕ) → i < n → T (finite (u (at i))))
    (here : (i : ℕ) → i < n → T (not (lt farthest (distances ss g h u (at i))))) (there : (i : ℕ) → i < n → T (not (lt farthest (distances ts g' h' (λ j. u (at j)) i)))) where
  pub place : (a b : Bool) → T (meets at n a b ss ts) → Place g h g' h' a b
  unfolding meets
  place a b t =
      let p : ℕ → Bool = λ i. is_sign a (get_or ss (at i) (pos 0)) in
      let q : ℕ → Bool = λ i. is_sign b (get_or ts i (pos 0)) in
      let r = any_below_lem n (λ i. p i && q i) t in
      let i = r.0 in
      record {
        value = u (at i);
        fine = fine i r.1;
        here = rw (is_sign_lem a (get_or ss (at i) (pos 0)) (and_l (p i) (q i) r.2)) at (here i r.1);
        there = rw (is_sign_lem b (get_or ts i (pos 0)) (and_r (p i) (q i) r.2)) at (there i r.1);
      }

-- ---- by order alone: one scale
pub unopposed : (s : Bool) (g h : Float) → Scale g h → Place g h g h s (not s) → ⊥
unopposed s g h S x = one_side s h x.value S.shift_finite x.fine (side_of g h S s x.value x.fine x.here) (side_of g h S (not s) x.value x.fine x.there)

module _ (g h g' h' : Float) (S : Scale g h) (S' : Scale g' h') where
  -- two scales: x is above y in the one, and below it in the other
  pub uncrossed : Place g h g' h' false true → Place g h g' h' true false → ⊥
  uncrossed x y =
      never_both y.value x.value y.fine x.fine
      (lt_trans y.value h x.value y.fine S.shift_finite x.fine (side_of g h S true y.value y.fine y.here) (side_of g h S false x.value x.fine x.here))
      (lt_trans x.value h' y.value x.fine S'.shift_finite y.fine (side_of g' h' S' true x.value x.fine x.there) (side_of g' h' S' false y.value y.fine y.there))

  -- ---- by how far values lie from the shift: a's sign is s and then the other, b's is the other in both, c's is s in both.
  -- Round a, h, c, h' and round a, h, b, h' the widths add up: 3 least g + 3 least g' < most g + most g'.
  pub unspread : (s : Bool) → Sized g → Sized g' → Place g h g' h' s (not s) → Place g h g' h' (not s) (not s) → Place g h g' h' s s → ⊥
  unspread s Z Z' a b c =
      let ah = further_than_least g h S Z a.value a.fine s a.here in
      let ha = way_flip s a.value h' _ 0 (further_than_least g' h' S' Z' a.value a.fine (not s) a.there) in
      let bh = way_flip s b.value h _ 0 (further_than_least g h S Z b.value b.fine (not s) b.here) in
      let hb = way_flip s h' b.value 0 _ (short_of_most g' h' S' Z' b.value b.fine (not s) b.there) in
      let hc = short_of_most g h S Z c.value c.fine s c.here in
      let ch = further_than_least g' h' S' Z' c.value c.fine s c.there in
      let u = way_round s a.value h c.value h' _ _ _ _ _ _ _ _ ah hc ch ha in
      let w = way_round s a.value h b.value h' _ _ _ _ _ _ _ _ ah bh hb ha in
      omega (arith, most_le g Z, most_le g' Z')

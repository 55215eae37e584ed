-- Request d, what it is for: a whole offset moves the shift of whole values by just as much, and changes nothing else.
-- Their halves are exact in f32, so that each difference from the shift is the same as before. Assumes nothing.
use mathlib.Core.Path.{◌≡◌, refl, ap, ◌∙◌}
use mathlib.Core.Logic.{◌⊎◌, inl, inr}
use mathlib.Core.Bool.{Bool, true, false, not, cond}
use mathlib.Core.List.{List}
use Prim.Native.Nat.{ℕ, zero, suc, ◌+◌, ◌-◌, ◌*◌, ◌≤◌, ◌<◌}
use native.Mathlib.Omega.{arith}
use lib.IntN.{ℤ, pos, negsuc, nat_abs, ◌+ℤ◌, sub_ℕ}
use lib.ListN.{get_or}
use lib.Dec.{T, ltb, ltb→lt, nltb→le}
use lib.Ieee.{Float, binary32, of_int, of_bits, sub, div, lt, eq}
use lib.Ieee.Fits.{of_int-fits}
use lib.Ieee.Scale.{finite}
use lib.Ieee.Positive.{den}
use Rattle.numbers.specs.Choice.{larger, smaller, size_of}
use Rattle.numbers.specs.Sum.{nought}
use Rattle.numbers.specs.Zero.{neg_zero}
use Rattle.numbers.proofs.Below.{any_same}
use Rattle.numbers.proofs.Order.{eq_self}
use Rattle.numbers.proofs.Sums.{sum_same}
use Rattle.numbers.proofs.Zeros.{add_nought}
use Rattle.protocol.specs.declared.SyncBurst.{SyncBurst}
use Rattle.protocol.specs.Bursts.{signs_of}
use Rattle.decode.specs.Correlator.{farthest, threshold, zero_unsigned, gain_of, shift_of, symbol_of, distance_of, summed, diff_of, distances, correlation, matches}
use Rattle.decode.specs.Offset.{above, below, MovedBy, wholes, offset_by, OffsetFree}
use Rattle.decode.proofs.Scale.{million}
use Rattle.decode.proofs.Opened.{unsigned_at, gain_at, shift_at}
use Rattle.decode.proofs.RangeFacts.{extreme, further, extreme_suc, extreme_zero}
use Rattle.decode.proofs.Halves.{half_lt, lt_half, Exact, same_difference, whole_exact_half, middle}

-- ---- whole numbers by their parts
apart : (a b : ℕ) → above (sub_ℕ a b) + b ≡ a + below (sub_ℕ a b)
apart a b = go (ltb a b) (ltb→lt a b) (nltb→le a b)
  where
    go : (s : Bool) → (T s → a < b) → (T (not s) → b ≤ a) → above (cond s (negsuc (b - suc a)) (pos (a - b))) + b ≡ a + below (cond s (negsuc (b - suc a)) (pos (a - b)))
    go true l g = let h = l tt in omega arith
    go false l g = let h = g tt in omega arith

-- z + c, by the parts of z and c
moved : (z c : ℤ) → above (z +ℤ c) + below z + below c ≡ above z + above c + below (z +ℤ c)
moved (pos a) (pos b) = omega arith
moved (pos a) (negsuc b) = omega (arith, apart a (suc b))
moved (negsuc a) (pos b) = omega (arith, apart b (suc a))
moved (negsuc a) (negsuc b) = omega arith

-- ---- the larger and the smaller of two
same_test : (a b : Bool) → (T a → T b) → (T b → T a) → a ≡ b
same_test true true h k = refl
same_test true false h k = absurd (h tt)
same_test false true h k = absurd (k tt)
same_test false false h k = refl

chosen : (t : Bool) (a b : Float) → T t → cond t a b ≡ a
chosen true a b h = refl
chosen false a b h = elim h [ ]

-- b lies beyond a in the direction s
abbrev passes : Bool → Float → Float → Bool
passes false a b = lt a b
passes true a b = lt b a

further_is : (s : Bool) (a b : Float) → T (finite a) → further s a b ≡ cond (passes s a b) b a
unfolding larger smaller
further_is false a b p = ap (cond (lt a b) b) (chosen (eq a a) a b (eq_self a p))
further_is true a b p = ap (cond (lt b a) b) (chosen (eq a a) a b (eq_self a p))

either : (t : Bool) (a b a' b' : Float) → ((cond t b a ≡ a) × (cond t b' a' ≡ a')) ⊎ ((cond t b a ≡ b) × (cond t b' a' ≡ b'))
either true a b a' b' = inr (refl, refl)
either false a b a' b' = inl (refl, refl)

-- of two pairs in the same order the same one is the further
further_alike : (s : Bool) (a b a' b' : Float) → T (finite a) → T (finite a') → passes s a b ≡ passes s a' b'
    → ((further s a b ≡ a) × (further s a' b' ≡ a')) ⊎ ((further s a b ≡ b) × (further s a' b' ≡ b'))
further_alike s a b a' b' p p' e = rw (further_is s a b p, further_is s a' b' p', e) (either (passes s a' b') a b a' b')

-- ---- the diff sees the differences from the shift alone
distance_same : (g h h' x x' : Float) (target : ℤ) → sub binary32 x h ≡ sub binary32 x' h' → distance_of g h target x ≡ distance_of g h' target x'
unfolding distance_of symbol_of
distance_same g h h' x x' target e = ap (λ (d : Float). size_of (sub binary32 (div binary32 d g) (of_int binary32 target))) e

diff_same : (signs : List ℤ) (g h h' : Float) (u u' : ℕ → Float) → ((i : ℕ) → i < 8 → sub binary32 (u i) h ≡ sub binary32 (u' i) h')
    → diff_of g (distances signs g h u) ≡ diff_of g (distances signs g h' u')
unfolding diff_of summed
diff_same signs g h h' u u' e =
    let same : (i : ℕ) → i < 8 → distances signs g h u i ≡ distances signs g h' u' i = λ i l. distance_same g h h' (u i) (u' i) (get_or signs i (pos 0)) (e i l) in
    rw (any_same 8 _ _ (λ i l. ap (lt farthest) (same i l)), sum_same binary32 _ _ 8 same)

-- ---- no value is -0.0
value_clear : (z : ℤ) → T (not (neg_zero (zero_unsigned (of_int binary32 z))))
unfolding zero_unsigned of_bits
value_clear z = rw (add_nought binary32 (of_int binary32 z) (of_int-fits binary32 z)) (go (of_int binary32 z) (neg_zero (of_int binary32 z)) refl)
  where
    go : (x : Float) (b : Bool) → neg_zero x ≡ b → T (not (neg_zero (cond b nought x)))
    go x true e = unfold neg_zero in tt
    go x false e = rw e tt

-- ---- eight whole values within ±1,000,000, before and after c is added to each
module _ (z : ℕ → ℤ) (c : ℤ) (small : (i : ℕ) → i < 8 → nat_abs (z i) ≤ million) (still : (i : ℕ) → i < 8 → nat_abs (z i +ℤ c) ≤ million) where
  abbrev before : ℕ → Float
  before = unsigned_at (wholes z)

  abbrev after : ℕ → Float
  after = unsigned_at (offset_by c z)

  is : (i : ℕ) → i < 8 → Exact (before i) (2 * above (z i)) (2 * below (z i))
  is i l = whole_exact_half (z i) (omega (arith, small i l))

  becomes : (i : ℕ) → i < 8 → Exact (after i) (2 * above (z i +ℤ c)) (2 * below (z i +ℤ c))
  becomes i l = whole_exact_half (z i +ℤ c) (omega (arith, still i l))

  ordered : (i j : ℕ) → i < 8 → j < 8 → lt (before i) (before j) ≡ lt (after i) (after j)
  ordered i j l m =
      let e = moved (z i) c in
      let f = moved (z j) c in
      same_test _ _
      (λ h. lt_half (after i) (after j) _ _ _ _ (becomes i l).half (becomes j m).half (omega (arith, half_lt (before i) (before j) _ _ _ _ (is i l).half (is j m).half h)))
      (λ h. lt_half (before i) (before j) _ _ _ _ (is i l).half (is j m).half (omega (arith, half_lt (after i) (after j) _ _ _ _ (becomes i l).half (becomes j m).half h)))

  passes_alike : (s : Bool) (i j : ℕ) → i < 8 → j < 8 → passes s (before i) (before j) ≡ passes s (after i) (after j)
  passes_alike false i j l m = ordered i j l m
  passes_alike true i j l m = ordered j i m l

  -- the highest and the lowest are at the same places
  at_extreme : (s : Bool) (n : ℕ) → n < 8 → (j : ℕ) × (j < 8) × (extreme s before n ≡ before j) × (extreme s after n ≡ after j)
  at_extreme s zero l = (0, l, extreme_zero s before, extreme_zero s after)
  at_extreme s (suc n) l =
      let (j, m, e, f) = at_extreme s n (omega arith) in
      elim (further_alike s (before j) (before (suc n)) (after j) (after (suc n)) (is j m).half.0 (becomes j m).half.0 (passes_alike s j (suc n) m l)) [
        | inl (x, y) ↦ (j, m, extreme_suc s before n ∙ rw e x, extreme_suc s after n ∙ rw f y)
        | inr (x, y) ↦ (suc n, l, extreme_suc s before n ∙ rw e x, extreme_suc s after n ∙ rw f y)
      ]

  -- ---- by the places of the extremes
  module _ (j k : ℕ) (l : j < 8) (m : k < 8) where
    gain_same : gain_of (after j) (after k) ≡ gain_of (before j) (before k)
    unfolding gain_of
    gain_same =
        let e = moved (z j) c in
        let f = moved (z k) c in
        ap (λ (d : Float). div binary32 d (of_bits binary32 0x4000_0000))
        (same_difference (becomes j l) (becomes k m) (is j l) (is k m) (value_clear (z j +ℤ c)) (value_clear (z j)) (omega arith))

    shift_is : Exact (shift_of (before j) (before k)) (above (z j) + above (z k)) (below (z j) + below (z k))
    shift_is = middle (before j) (before k) (above (z j)) (below (z j)) (above (z k)) (below (z k)) (is j l) (is k m)

    shift_becomes : Exact (shift_of (after j) (after k)) (above (z j +ℤ c) + above (z k +ℤ c)) (below (z j +ℤ c) + below (z k +ℤ c))
    shift_becomes = middle (after j) (after k) (above (z j +ℤ c)) (below (z j +ℤ c)) (above (z k +ℤ c)) (below (z k +ℤ c)) (becomes j l) (becomes k m)

    difference_same : (i : ℕ) → i < 8 → sub binary32 (after i) (shift_of (after j) (after k)) ≡ sub binary32 (before i) (shift_of (before j) (before k))
    difference_same i o =
        let d = moved (z i) c in
        let e = moved (z j) c in
        let f = moved (z k) c in
        same_difference (becomes i o) shift_becomes (is i o) shift_is (value_clear (z i +ℤ c)) (value_clear (z i)) (omega arith)

    shift_moved : MovedBy c (shift_of (before j) (before k)) (shift_of (after j) (after k))
    shift_moved =
        let x = shift_of (before j) (before k) in
        let y = shift_of (after j) (after k) in
        let v = shift_is.half in
        let w = shift_becomes.half in
        let d = moved (z j) c in
        let f = moved (z k) c in
        let e : above (z j +ℤ c) + above (z k +ℤ c) + (below (z j) + below (z k)) + 2 * below c
        ≡ above (z j) + above (z k) + (below (z j +ℤ c) + below (z k +ℤ c)) + 2 * above c = omega arith in
        (v.0, w.0, omega (arith, ap (λ (n : ℕ). n * den y) v.1, ap (λ (n : ℕ). n * den x) w.1, ap (λ (n : ℕ). n * (den x * den y)) e))

  pub offset_free : (b : SyncBurst) → OffsetFree b (wholes z) (offset_by c z) c
  unfolding correlation matches
  offset_free b =
      let (j, l, h, h') = at_extreme false 7 (omega arith) in
      let (k, m, o, o') = at_extreme true 7 (omega arith) in
      let gain : gain_at (offset_by c z) ≡ gain_at (wholes z) = rw (h, h', o, o') (gain_same j k l m) in
      let shift : MovedBy c (shift_at (wholes z)) (shift_at (offset_by c z)) = rw (h, h', o, o') (shift_moved j k l m) in
      let same : (i : ℕ) → i < 8 → sub binary32 (after i) (shift_at (offset_by c z)) ≡ sub binary32 (before i) (shift_at (wholes z)) = λ i p. rw (h, h', o, o') (difference_same j k l m i p) in
      let diff : (correlation b (offset_by c z)).diff ≡ (correlation b (wholes z)).diff = rw gain (diff_same (signs_of b) (gain_at (wholes z)) (shift_at (offset_by c z)) (shift_at (wholes z)) after before same) in
      record { match = ap (λ (d : Float). lt d threshold) diff; diff = diff; gain = gain; shift = shift }

-- A burst that matches eight values in range has their sides: each value lies above the shift where the sign is +1, and below it where it is
-- -1. So a mark that rules the sides out rules the match out. Assumes nothing.
use mathlib.Core.Path.{◌≡◌, refl, ◌∙◌}
use mathlib.Core.Bool.{Bool, true, false, not, cond, ◌||◌}
use Prim.Native.Nat.{ℕ, zero, suc, ◌≤◌, ◌<◌}
use native.Mathlib.Omega.{arith}
use lib.IntN.{pos}
use lib.ListN.{get_or}
use lib.Dec.{T, not_T, lit≤}
use lib.Ieee.{Float, lt, eq}
use lib.Ieee.Bits.{is_true, is_false}
use lib.Ieee.Scale.{finite}
use Rattle.numbers.specs.Choice.{larger, smaller}
use Rattle.numbers.specs.Within.{Within}
use Rattle.numbers.proofs.Order.{eq_self, lt→le, not_lt}
use Rattle.numbers.proofs.Below.{below_all}
use Rattle.protocol.specs.declared.Kind.{Kind}
use Rattle.protocol.specs.declared.Kind.TheVariants.{Lsf, Bert, Stream, Packet}
use Rattle.protocol.specs.declared.SyncBurst.{SyncBurst}
use Rattle.protocol.specs.declared.SyncBurst.TheVariants.{Frame, Preamble, EndOfTransmission}
use Rattle.protocol.specs.Bursts.{signs_of}
use Rattle.decode.specs.Correlator.{least_gain, highest, lowest, matches, in_range}
use Rattle.decode.proofs.Scale.{million}
use Rattle.decode.proofs.Direction.{signed, Beyond}
use Rattle.decode.proofs.Signs.{sign_at}
use Rattle.decode.proofs.Side.{side_of}
use Rattle.decode.proofs.Opened.{unsigned_at, gain_at, shift_at, opened}
use Rattle.decode.proofs.RangeFacts.{value_unsigned, extreme_within, scale}
use Rattle.look.specs.Marks.{upper, lower, top_of, bottom_of, side_like, sides_like, sides_of, mark_from, mark_of}

-- ---- of numbers the extremes are the correlator's
upper_larger : (a b : Float) → T (finite a) → upper a b ≡ larger a b
unfolding larger
upper_larger a b p = rw (is_true (eq a a) (eq_self a p))

lower_smaller : (a b : Float) → T (finite a) → lower a b ≡ smaller a b
unfolding smaller
lower_smaller a b p = rw (is_true (eq a a) (eq_self a p))

module _ (u : ℕ → Float) (k : ℕ) where
  top_highest : (n : ℕ) → ((i : ℕ) → i ≤ n → Within (u i) k) → top_of u n ≡ highest u n
  unfolding top_of highest
  top_highest zero w = refl
  top_highest (suc n) w =
      let less : (i : ℕ) → i ≤ n → Within (u i) k = λ i l. w i (omega arith) in
      rw (top_highest n less) (upper_larger (highest u n) (u (suc n)) (extreme_within false u k n less).0)

  bottom_lowest : (n : ℕ) → ((i : ℕ) → i ≤ n → Within (u i) k) → bottom_of u n ≡ lowest u n
  unfolding bottom_of lowest
  bottom_lowest zero w = refl
  bottom_lowest (suc n) w =
      let less : (i : ℕ) → i ≤ n → Within (u i) k = λ i l. w i (omega arith) in
      rw (bottom_lowest n less) (lower_smaller (lowest u n) (u (suc n)) (extreme_within true u k n less).0)

-- ---- one value
side_like_lem : (s : Bool) (shift value : Float) → T (finite shift) → T (finite value) → Beyond s shift value → T (side_like (signed s) (lt shift value))
side_like_lem false shift value p q h = h
side_like_lem true shift value p q h = not_lt value shift q p (lt→le value shift q p h)

module _ (v : ℕ → Float) (range : (i : ℕ) → i < 8 → T (in_range (v i))) where
  pub sides_of_match : (burst : SyncBurst) → T (matches burst v) → T (sides_of burst (shift_at v) (unsigned_at v))
  unfolding sides_like
  sides_of_match burst m =
      let o = opened burst v m in
      let S = scale v range o.strong in
      below_all 8 (λ (i : ℕ). side_like (get_or (signs_of burst) i (pos 0)) (lt (shift_at v) (unsigned_at v i))) λ i l.
      let s = sign_at burst i l in
      let K = (value_unsigned v range i (omega arith)).0 in
      rw s.1
      (side_like_lem s.0 (shift_at v) (unsigned_at v i) S.shift_finite K (side_of (gain_at v) (shift_at v) S s.0 (unsigned_at v i) K (rw s.1 at (o.near i l))))

  own_mark : mark_of v ≡ mark_from (gain_at v) (shift_at v) (unsigned_at v)
  unfolding mark_of
  own_mark = rw (top_highest (unsigned_at v) million 7 (value_unsigned v range), bottom_lowest (unsigned_at v) million 7 (value_unsigned v range))

-- ---- what a mark rules out
or_true : (a : Bool) → a || true ≡ true
or_true true = refl
or_true false = refl

-- one of four is enough
picked : (f : Kind → Bool) (kind : Kind) → T (f kind) → f Lsf || f Bert || f Stream || f Packet ≡ true
picked f Lsf t = rw (is_true (f Lsf) t)
picked f Bert t = rw (is_true (f Bert) t, or_true (f Lsf))
picked f Stream t = rw (is_true (f Stream) t, or_true (f Lsf || f Bert))
picked f Packet t = rw (is_true (f Packet) t) (or_true (f Lsf || f Bert || f Stream))

module _ (gain shift : Float) (w : ℕ → Float) (loud : T (not (lt gain least_gain))) where
  frame_mark : (kind : Kind) → T (sides_of (Frame kind) shift w) → mark_from gain shift w ≡ 2
  unfolding mark_from
  frame_mark kind t = rw (is_true (not (lt gain least_gain)) loud, picked (λ (k : Kind). sides_of (Frame k) shift w) kind t)

  abbrev frames : Bool
  frames = sides_of (Frame Lsf) shift w || sides_of (Frame Bert) shift w || sides_of (Frame Stream) shift w || sides_of (Frame Packet) shift w

  marked : (t : Bool) → 1 ≤ cond t 2 1
  marked true = lit≤ tt
  marked false = lit≤ tt

  mark_some : (burst : SyncBurst) → T (sides_of burst shift w) → 1 ≤ mark_from gain shift w
  unfolding mark_from
  mark_some (Frame kind) t = rw (frame_mark kind t) (lit≤ tt)
  mark_some Preamble t = rw (is_true (not (lt gain least_gain)) loud, is_true (sides_of Preamble shift w) t) (marked frames)
  mark_some EndOfTransmission t =
      rw (is_true (not (lt gain least_gain)) loud, is_true (sides_of EndOfTransmission shift w) t, or_true (sides_of Preamble shift w))
      (marked frames)

module _ (v : ℕ → Float) (range : (i : ℕ) → i < 8 → T (in_range (v i))) where
  -- below 2 no frame's burst
  pub no_frame : mark_of v < 2 → (kind : Kind) → matches (Frame kind) v ≡ false
  no_frame l kind =
      is_false (matches (Frame kind) v)
      (not_T (matches (Frame kind) v) λ m.
      let e = own_mark v range ∙ frame_mark (gain_at v) (shift_at v) (unsigned_at v) (opened (Frame kind) v m).strong kind (sides_of_match v range (Frame kind) m) in
      omega (arith, e))

  -- at 0 no burst
  pub unmarked : mark_of v ≡ 0 → (burst : SyncBurst) → matches burst v ≡ false
  unmarked z burst =
      is_false (matches burst v)
      (not_T (matches burst v) λ m.
      let e = mark_some (gain_at v) (shift_at v) (unsigned_at v) (opened burst v m).strong burst (sides_of_match v range burst m) in
      omega (arith, e, own_mark v range))

-- No burst ends in five equal signs, so none matches eight values of which the last five are one: three symbols before all eight are 0.0. Assumes nothing.
use mathlib.Core.Path.{◌≡◌, subst}
use mathlib.Core.Bool.{Bool, true, false, not}
use mathlib.Core.List.{List}
use Prim.Native.Nat.{ℕ, ◌+◌, ◌-◌, ◌*◌, ◌≤◌, ◌<◌}
use native.Mathlib.Nat.{mul-le-mul_left}
use native.Mathlib.Omega.{arith}
use lib.Dec.{T, not_T, lit<, lit≤}
use lib.IntN.{ℤ, pos}
use lib.ListN.{length, get_or}
use lib.Ieee.{Float, lt}
use lib.Ieee.Bits.{is_false}
use lib.Ieee.Scale.{finite}
use Rattle.numbers.specs.Sum.{nought}
use Rattle.numbers.specs.Below.{any_below, all_below}
use Rattle.numbers.proofs.Below.{any_below_lem}
use Rattle.shaping.specs.Rate.{tap_count}
use Rattle.shaping.specs.Reach.{Finite}
use Rattle.protocol.specs.declared.SyncBurst.{SyncBurst}
use Rattle.protocol.specs.Bursts.{signs_of}
use Rattle.decode.specs.Correlator.{farthest, distance_of, zero_unsigned, matches, in_range}
use Rattle.decode.proofs.Direction.{signed, one_side}
use Rattle.decode.proofs.Signs.{is_sign, is_sign_lem}
use Rattle.decode.proofs.Table.{rank_below, for_each}
use Rattle.decode.proofs.Side.{side_of}
use Rattle.decode.proofs.Opened.{gain_at, shift_at, Opened, opened}
use Rattle.decode.proofs.RangeFacts.{value_unsigned, scale}
use Rattle.search.proofs.Silent.{Unmatched}
use Rattle.demodulator.specs.Spans.{eight}
use Rattle.demodulator_run.specs.Filter.{ago}
use Rattle.demodulator_run.proofs.InRange.{Small, Bounded, in_range_lem}
use Rattle.silence.proofs.ZeroF.{ZeroFrom, ago_zero}

-- ---- over the table: each sign is at one of the last five places
ends_in : (s : Bool) (b : SyncBurst) → T (any_below 5 (λ i. is_sign s (get_or (signs_of b) (3 + i) (pos 0))))
ends_in false b = for_each 6 (λ a. any_below 5 (λ i. is_sign false (get_or (signs_of a) (3 + i) (pos 0)))) (unfold all_below any_below is_sign signs_of in tt) b (rank_below b)
ends_in true b = for_each 6 (λ a. any_below 5 (λ i. is_sign true (get_or (signs_of a) (3 + i) (pos 0)))) (unfold all_below any_below is_sign signs_of in tt) b (rank_below b)

-- ---- one value cannot be near both signs
module _ (v : ℕ → Float) (range : (i : ℕ) → i < 8 → T (in_range (v i))) (x : Float) (alike : (i : ℕ) → i < 5 → v (3 + i) ≡ x) (b : SyncBurst) (o : Opened b v) where
  near : (s : Bool) → T (not (lt farthest (distance_of (gain_at v) (shift_at v) (signed s) (zero_unsigned x))))
  near s =
      let (i, l, t) = any_below_lem 5 (λ i. is_sign s (get_or (signs_of b) (3 + i) (pos 0))) (ends_in s b) in
      subst (λ (y : Float). T (not (lt farthest (distance_of (gain_at v) (shift_at v) (signed s) (zero_unsigned y))))) (alike i l)
      (rw (is_sign_lem s (get_or (signs_of b) (3 + i) (pos 0)) t) at (o.near (3 + i) (omega arith)))

  -- one side of the shift, and the other
  opposed : ⊥
  opposed =
      let S = scale v range o.strong in
      let y : Float = zero_unsigned x in
      let fine : T (finite y) = subst (λ (z : Float). T (finite (zero_unsigned z))) (alike 0 (lit< tt)) (value_unsigned v range 3 (lit≤ tt)).0 in
      one_side false (shift_at v) y S.shift_finite fine (side_of (gain_at v) (shift_at v) S false y fine (near false)) (side_of (gain_at v) (shift_at v) S true y fine (near true))

pub five_unmatched : (v : ℕ → Float) → ((i : ℕ) → i < 8 → T (in_range (v i))) → (x : Float) → ((i : ℕ) → i < 5 → v (3 + i) ≡ x) → Unmatched v
five_unmatched v range x alike b = is_false (matches b v) (not_T (matches b v) (λ m. opposed v range x alike b (opened b v m)))

-- ---- F of samples of 16 bits
pub unmatched_soon : (table : List Float) (p : ℕ) → length table ≤ tap_count p → Finite table → Bounded table → (xs : List ℤ) → Small xs
    → (n : ℕ) → ZeroFrom n (length xs) xs → n + 12 * p < length xs → Unmatched (eight p (ago table p xs))
unmatched_soon table p size fine bound xs small n z l =
    five_unmatched (eight p (ago table p xs)) (λ i m. in_range_lem table p bound xs small (length xs - p * (7 - i))) nought (λ i m.
    let near : p * (7 - (3 + i)) ≤ p * 4 = mul-le-mul_left p (omega arith) in
    ago_zero table p size fine xs n z (p * (7 - (3 + i))) (omega arith))

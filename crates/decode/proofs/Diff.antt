-- A match's diff is the sum of its distances: not below 0.0, and 8 at most. So a gain not below 16.0 and no distance above 0.3 are a match. Assumes nothing.
use mathlib.Core.Path.{◌≡◌, ◌∙◌}
use mathlib.Core.Bool.{Bool, not}
use Prim.Native.Nat.{ℕ, ◌≤◌, ◌<◌}
use native.Mathlib.Omega.{arith}
use lib.Dec.{T, T_not, not_T, lit≤}
use lib.Ieee.{Float, binary32, of_bits, lt, le}
use lib.Ieee.Bits.{cond_no}
use lib.Ieee.Positive.{den_pos}
use Rattle.numbers.specs.Below.{any_below}
use Rattle.numbers.specs.Sum.{sum_to, total_to}
use Rattle.numbers.specs.Within.{plus, minus, Within}
use Rattle.numbers.proofs.Below.{any_below_lem}
use Rattle.numbers.proofs.Order.{cross→le, cross→lt}
use Rattle.numbers.proofs.Bounds.{within_parts, size_minus}
use Rattle.numbers.proofs.Sums.{sum_within, sum_not_negative}
use Rattle.protocol.specs.declared.SyncBurst.{SyncBurst}
use Rattle.decode.specs.Correlator.{zero32, least_gain, farthest, threshold, no_match, summed, diff_of, distance_of, correlation, matches, in_range}
use Rattle.decode.proofs.Near.{distance_within}
use Rattle.decode.proofs.Signs.{sign_at}
use Rattle.decode.proofs.Opened.{unsigned_at, gain_at, shift_at, distance_at, Opened}
use Rattle.decode.proofs.RangeFacts.{value_unsigned, scale}

-- ---- the sum
sum_below : (x : Float) → Within x 8 → T (lt x threshold)
unfolding of_bits
sum_below x w = cross→lt x threshold w.0 tt (omega (arith, within_parts x 8 w, den_pos x))

sum_least : (x : Float) → Within x 8 → minus x ≤ plus x → T (le zero32 x)
unfolding of_bits
sum_least x w h = cross→le zero32 x tt w.0 (omega arith)

module _ (b : SyncBurst) (v : ℕ → Float) (o : Opened b v) where
  pub diff_is : (correlation b v).diff ≡ sum_to binary32 (distance_at b v) 8
  unfolding correlation diff_of summed
  diff_is =
      let far : ℕ → Bool = λ i. lt farthest (distance_at b v i) in
      let n : T (not (any_below 8 far)) = not_T (any_below 8 far) λ t. let r = any_below_lem 8 far t in T_not (far r.0) (o.near r.0 r.1) r.2 in
      cond_no (lt (gain_at v) least_gain) no_match (summed (distance_at b v)) o.strong ∙ cond_no (any_below 8 far) no_match (sum_to binary32 (distance_at b v) 8) n

  module _ (range : (i : ℕ) → i < 8 → T (in_range (v i))) where
    near_one : (i : ℕ) → i < 8 → Within (distance_at b v i) 1
    near_one i l =
        let s = sign_at b i l in
        rw s.1 (distance_within (gain_at v) (shift_at v) (scale v range o.strong) s.0 (unsigned_at v i) (value_unsigned v range i (omega arith)).0 (rw s.1 at (o.near i l)))

    sum_eight : Within (sum_to binary32 (distance_at b v) 8) 8
    unfolding total_to
    sum_eight = sum_within binary32 (distance_at b v) (λ i. 1) 8 (lit≤ tt) near_one

    distance_minus : (i : ℕ) → i < 8 → minus (distance_at b v i) ≡ 0
    unfolding distance_of
    distance_minus i l = size_minus _

    pub diff_below : T (lt (correlation b v).diff threshold)
    diff_below = rw diff_is (sum_below (sum_to binary32 (distance_at b v) 8) sum_eight)

    pub diff_least : T (le zero32 (correlation b v).diff)
    diff_least = rw diff_is (sum_least (sum_to binary32 (distance_at b v) 8) sum_eight (sum_not_negative binary32 (distance_at b v) 8 distance_minus))

    -- the other way round of `opened`
    pub closed : T (matches b v)
    unfolding matches
    closed = diff_below

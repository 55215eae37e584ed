-- What the values of a match are worth: diff, gain and shift within limits, and the shift strictly between the lowest and the highest value, since every burst has
-- both signs. Assumes nothing.
use mathlib.Core.Bool.{Bool, true, false}
use Prim.Native.Nat.{ℕ, ◌≤◌, ◌<◌}
use native.Mathlib.Omega.{arith}
use lib.Dec.{T}
use lib.Ieee.{Float, binary32, of_bits, lt, le}
use Rattle.protocol.specs.declared.SyncBurst.{SyncBurst}
use Rattle.decode.specs.declared.Correlation.{Correlation}
use Rattle.decode.specs.Correlator.{zero32, least_gain, threshold, highest, lowest, correlation, matches, in_range}
use Rattle.decode.proofs.Direction.{Beyond, beyond_toward}
use Rattle.decode.proofs.Side.{side_of}
use Rattle.decode.proofs.Signs.{sign_held}
use Rattle.decode.proofs.Opened.{unsigned_at, gain_at, shift_at, Opened, opened}
use Rattle.decode.proofs.RangeFacts.{within_range, range_le, value_unsigned, extreme, extreme_unsigned, toward_extreme, gain_within, gain_le, shift_within, scale}
use Rattle.decode.proofs.Diff.{diff_least, diff_below}

pub record MatchFacts (c : Correlation) (low high : Float) : Type 0 where
  pub diff_least : T (le zero32 c.diff)
  pub diff_below : T (lt c.diff threshold)
  pub gain_least : T (le least_gain c.gain)
  pub gain_most : T (le c.gain (of_bits binary32 0x4974_2400))
  pub shift_above : T (lt low c.shift)
  pub shift_below : T (lt c.shift high)
  pub shift_range : T (in_range c.shift)

module _ (v : ℕ → Float) (range : (i : ℕ) → i < 8 → T (in_range (v i))) (b : SyncBurst) (o : Opened b v) where
  -- the extreme in each direction is on that side of the shift
  shift_inside : (s : Bool) → Beyond s (shift_at v) (extreme s (unsigned_at v) 7)
  shift_inside s =
      let S = scale v range o.strong in
      let r = sign_held s b in
      let i = r.0 in
      let l : i ≤ 7 = omega (arith, r.1) in
      let K = (value_unsigned v range i l).0 in
      beyond_toward s (shift_at v) (unsigned_at v i) (extreme s (unsigned_at v) 7) S.shift_finite K (extreme_unsigned v range s).0
      (side_of (gain_at v) (shift_at v) S s (unsigned_at v i) K (rw r.2 at (o.near i r.1)))
      (toward_extreme s (unsigned_at v) _ 7 (value_unsigned v range) i l)

pub match_facts : (v : ℕ → Float) → ((i : ℕ) → i < 8 → T (in_range (v i))) → (b : SyncBurst) → T (matches b v) → MatchFacts (correlation b v) (lowest (unsigned_at v) 7) (highest (unsigned_at v) 7)
unfolding correlation
match_facts v range b m =
    let o = opened b v m in
    record {
      diff_least = diff_least b v o range;
      diff_below = diff_below b v o range;
      gain_least = gain_le v range o.strong;
      gain_most = range_le (gain_at v) (gain_within v range);
      shift_above = shift_inside v range b o true;
      shift_below = shift_inside v range b o false;
      shift_range = within_range (shift_at v) (shift_within v range);
    }

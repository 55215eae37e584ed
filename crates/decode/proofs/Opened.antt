-- What a match is: a gain not below 16.0, and no distance above 0.3. The threshold of 100.0 shuts out only the value that stands for no match. Assumes nothing.
use mathlib.Core.Bool.{Bool, true, false, not, cond}
use Prim.Native.Nat.{ℕ, ◌<◌}
use lib.Dec.{T}
use lib.Ieee.{Float, binary32, of_bits, lt}
use Rattle.numbers.specs.Below.{any_below}
use Rattle.numbers.specs.Sum.{sum_to}
use Rattle.numbers.proofs.Below.{none_below}
use Rattle.protocol.specs.declared.SyncBurst.{SyncBurst}
use Rattle.protocol.specs.Bursts.{signs_of}
use Rattle.decode.specs.Correlator.{least_gain, farthest, threshold, no_match, zero_unsigned, highest, lowest, gain_of, shift_of, summed, diff_of, distances, correlation, matches}

-- the values with their zeros unsigned, and their gain and shift
abbrev pub unsigned_at : (ℕ → Float) → ℕ → Float
unsigned_at v i = zero_unsigned (v i)

abbrev pub gain_at : (ℕ → Float) → Float
gain_at v = gain_of (highest (unsigned_at v) 7) (lowest (unsigned_at v) 7)

abbrev pub shift_at : (ℕ → Float) → Float
shift_at v = shift_of (highest (unsigned_at v) 7) (lowest (unsigned_at v) 7)

abbrev pub distance_at : SyncBurst → (ℕ → Float) → ℕ → Float
distance_at b v = distances (signs_of b) (gain_at v) (shift_at v) (unsigned_at v)

pub record Opened (b : SyncBurst) (v : ℕ → Float) : Type 0 where
  pub strong : T (not (lt (gain_at v) least_gain))
  pub near : (i : ℕ) → i < 8 → T (not (lt farthest (distance_at b v i)))

never_matches : T (lt no_match threshold) → ⊥
unfolding lt of_bits
never_matches h = h

matched : (weak far : Bool) (sum : Float) → T (lt (cond weak no_match (cond far no_match sum)) threshold) → T (not weak) × T (not far)
matched true far sum h = absurd (never_matches h)
matched false true sum h = absurd (never_matches h)
matched false false sum h = (tt, tt)

pub opened : (b : SyncBurst) (v : ℕ → Float) → T (matches b v) → Opened b v
unfolding matches correlation diff_of summed
opened b v h =
    let far : ℕ → Bool = λ i. lt farthest (distance_at b v i) in
    let m = matched (lt (gain_at v) least_gain) (any_below 8 far) (sum_to binary32 (distance_at b v) 8) h in
    record { strong = m.0; near = none_below 8 far m.1 }

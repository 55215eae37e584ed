-- Eight values that are all below 15 in size have a gain below 16, and no burst matches them. Assumes nothing.
use mathlib.Core.Path.{◌≡◌, refl}
use mathlib.Core.Bool.{true, false}
use Prim.Native.Nat.{ℕ, ◌≤◌, ◌<◌}
use native.Mathlib.Nat.{zero-lt-suc}
use native.Mathlib.Omega.{arith}
use lib.Dec.{T, T_not, not_T, lit≤}
use lib.Ieee.{Float, nan, inf, fin, binary32, of_bits, sub, neg, lt}
use lib.Ieee.Bits.{is_false}
use lib.Ieee.Exact.{HasValue}
use lib.Ieee.Fits.{and_l, and_r}
use lib.Ieee.Positive.{den_pos}
use lib.Ieee.Scale.{finite}
use Rattle.numbers.specs.Within.{Within}
use Rattle.numbers.proofs.Order.{lt→le, cross→lt}
use Rattle.numbers.proofs.Bounds.{within_parts, between, add_within, sub_within, div_within}
use Rattle.protocol.specs.declared.SyncBurst.{SyncBurst}
use Rattle.decode.specs.Correlator.{zero32, least_gain, zero_unsigned, gain_of, matches}
use Rattle.decode.proofs.Opened.{unsigned_at, gain_at, opened}
use Rattle.decode.proofs.RangeFacts.{extreme, extreme_within}
use Rattle.look.specs.Rows.{faint, value_faint}

-- ---- one value
faint_finite : (x : Float) → T (value_faint x) → T (finite x)
unfolding lt of_bits neg
faint_finite nan h = absurd h
faint_finite (inf true) h = absurd h
faint_finite (inf false) h = absurd h
faint_finite (fin s m e) h = tt

top_value : HasValue faint false 15 1
unfolding of_bits
top_value = (refl, refl)

bottom_value : HasValue (neg faint) true 15 1
unfolding of_bits neg
bottom_value = (refl, refl)

ends_finite : T (finite faint) × T (finite (neg faint))
unfolding of_bits neg
ends_finite = (tt, tt)

faint_within : (x : Float) → T (value_faint x) → Within x 15
faint_within x h =
    let p = faint_finite x h in
    between (neg faint) x faint 15 bottom_value top_value (lt→le (neg faint) x ends_finite.1 p (and_r (lt x faint) (lt (neg faint) x) h))
    (lt→le x faint p ends_finite.0 (and_l (lt x faint) (lt (neg faint) x) h))

unsigned_faint : (x : Float) → T (value_faint x) → Within (zero_unsigned x) 15
unfolding zero_unsigned of_bits
unsigned_faint x h = add_within binary32 x zero32 15 0 (lit≤ tt) (faint_within x h) (tt, lit≤ tt)

-- ---- their gain
below_16 : (x : Float) → Within x 15 → T (lt x least_gain)
unfolding of_bits
below_16 x w = cross→lt x least_gain w.0 tt (omega (arith, within_parts x 15 w, den_pos x))

module _ (v : ℕ → Float) (small : (i : ℕ) → i < 8 → T (value_faint (v i))) where
  value : (i : ℕ) → i ≤ 7 → Within (unsigned_at v i) 15
  value i l = unsigned_faint (v i) (small i (omega arith))

  gain_within : Within (gain_at v) 15
  unfolding gain_of of_bits
  gain_within =
      let hi = extreme false (unsigned_at v) 7 in
      let lo = extreme true (unsigned_at v) 7 in
      div_within binary32 (sub binary32 hi lo) (of_bits binary32 0x4000_0000) 15 2 (lit≤ tt) (zero-lt-suc 1)
      (sub_within binary32 hi lo 15 15 (lit≤ tt) (extreme_within false (unsigned_at v) 15 7 value) (extreme_within true (unsigned_at v) 15 7 value)) tt
      (lit≤ tt)

  -- "Gain below 16.0: no match."
  pub faint_unmatched : (burst : SyncBurst) → matches burst v ≡ false
  faint_unmatched burst =
      is_false (matches burst v)
      (not_T (matches burst v) λ m. T_not (lt (gain_at v) least_gain) (opened burst v m).strong (below_16 (gain_at v) gain_within))

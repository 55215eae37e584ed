-- Which reports are fit, at each limit and beside it; sums at the limit. Computed. Assumes nothing.
use Rattle.std.specs.Prelude.{Some, None}
use mathlib.Core.Path.{◌≡◌, refl}
use mathlib.Core.Bool.{Bool, true, false, not}
use mathlib.Core.List.{List}
use Prim.Native.Nat.{ℕ, ◌+◌, ◌-◌, ◌^◌}
use lib.ListN.{replicate, set}
use lib.Ieee.{Float, binary32, of_bits, le}
use Rattle.numbers.specs.Below.{all_below}
use Rattle.figures.specs.Totals.{gain_fit, gains_fit, totals_fit, would_pass}

-- a total of each place
pub total_of : ℕ → ℕ → List ℕ
total_of place n = set (replicate 24 0) place n

pub fit_total : ℕ → ℕ → Bool
fit_total n place = totals_fit (total_of place n)

-- 2^63 at any place is fit, one more is not
pub each_total_at_its_limit : all_below 24 (fit_total (2 ^ 63)) ≡ true
unfolding all_below fit_total total_of totals_fit
each_total_at_its_limit = refl

pub no_total_above_it : all_below 24 (λ (place : ℕ). not (fit_total (2 ^ 63 + 1) place)) ≡ true
unfolding all_below fit_total total_of totals_fit
no_total_above_it = refl

-- 16 and 1,000,000; the f32 below the one and above the other; -0.0, not a number, the infinities
pub gain_limits : (gain_fit (of_bits binary32 0x4180_0000) ≡ true) × (gain_fit (of_bits binary32 0x4974_2400) ≡ true)
    × (gain_fit (of_bits binary32 0x417f_ffff) ≡ false) × (gain_fit (of_bits binary32 0x4974_2401) ≡ false)
    × (gain_fit (of_bits binary32 0x8000_0000) ≡ false) × (gain_fit (of_bits binary32 0x7fc0_0000) ≡ false) × (gain_fit (of_bits binary32 0x7f80_0000) ≡ false) × (gain_fit (of_bits binary32 0xff80_0000) ≡ false) × (gain_fit (of_bits binary32 0xc1800000) ≡ false)
unfolding of_bits le
gain_limits = (refl, refl, refl, refl, refl, refl, refl, refl, refl)

abbrev pub low : Float
low = of_bits binary32 0x4180_0000

abbrev pub high : Float
high = of_bits binary32 0x4974_2400

-- one without the other is unfit; smallest above largest is fit
pub gains_together : (gains_fit None None ≡ true) × (gains_fit (Some low) None ≡ false) × (gains_fit None (Some high) ≡ false)
    × (gains_fit (Some low) (Some high) ≡ true) × (gains_fit (Some high) (Some low) ≡ true)
unfolding of_bits le
gains_together = (refl, refl, refl, refl, refl)

-- 2^63 and nothing, 2^63 and one, 2^63 and 2^63
pub sums_at_the_limit : (would_pass (total_of 23 (2 ^ 63)) (total_of 22 1) ≡ false) × (would_pass (total_of 23 (2 ^ 63)) (total_of 23 1) ≡ true)
    × (would_pass (total_of 0 (2 ^ 63)) (total_of 0 (2 ^ 63)) ≡ true)
    × (would_pass (total_of 0 (2 ^ 63 - 1)) (total_of 0 1) ≡ false)
unfolding would_pass all_below total_of
sums_at_the_limit = (refl, refl, refl, refl)

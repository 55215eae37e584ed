-- Instances that meet the laws' hypotheses: rows of zeros by the tables of both rates, just long enough for 48 sums. Assumes nothing.
use mathlib.Core.Path.{◌≡◌, refl}
use native.Mathlib.Omega.{arith}
use lib.ListN.{replicate, length-replicate}
use lib.Ieee.{binary32, of_bits, eq}
use Rattle.numbers.specs.Below.{all_below}
use Rattle.numbers.specs.Sum.{nought}
use Rattle.numbers.specs.Zero.{is_zero}
use Rattle.shaping.specs.Rate.{at48, at24}
use Rattle.shaping.specs.Sum.{dot}
use Rattle.shaping.proofs.RateFacts.{facts48, facts24}
use Rattle.bulk.specs.Sums.{sum_from, is_still_lem}
use Rattle.bulk.proofs.Still.{still_dot, still_sum}

still_dot_meets : dot at24.taps (λ _. nought) ≡ nought
still_dot_meets = still_dot at24.taps facts24.finite (λ _. nought) (λ i l. unfold is_zero in tt)

-- the last of the 48, of zeros with a sign
still_48 : sum_from at48.taps (replicate 128 (of_bits binary32 0x8000_0000)) 47 ≡ of_bits binary32 0
still_48 =
    still_sum at48.taps (replicate 128 (of_bits binary32 0x8000_0000)) facts48.finite (unfold is_still_lem all_below eq of_bits in refl) 47
    (omega (arith, facts48.number, length-replicate 128 (of_bits binary32 0x8000_0000)))

still_24 : sum_from at24.taps (replicate 88 (of_bits binary32 0x8000_0000)) 47 ≡ of_bits binary32 0
still_24 =
    still_sum at24.taps (replicate 88 (of_bits binary32 0x8000_0000)) facts24.finite (unfold is_still_lem all_below eq of_bits in refl) 47
    (omega (arith, facts24.number, length-replicate 88 (of_bits binary32 0x8000_0000)))

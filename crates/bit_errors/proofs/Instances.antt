-- Small instances of the laws. Assumes nothing.
use mathlib.Core.Path.{◌≡◌, refl}
use mathlib.Core.Bool.{true, false}
use mathlib.Core.List.{List, ◌∷◌}
use Prim.Native.Nat.{◌+◌, ◌≤◌}
use lib.ListN.{replicate}
use lib.Ieee.{Float, nan, inf, binary32, of_bits, lt}
use Rattle.decode.specs.Slicer.{sliced}
use Rattle.protocol.specs.Refusals.{bare}
use Rattle.bit_errors.specs.Errors.{refusal, errors, bits_of, differences, bit_errors_lem}
use Rattle.bit_errors.proofs.Laws.{count, Agree, none_exactly, at_most, count_joined}

-- 1.0 is 01, and a not-a-number 11, as -infinity is
up : List Float
up = replicate 184 (of_bits binary32 0x3f80_0000)

wrong : List Float
wrong = replicate 184 nan

one_bit_each : bit_errors_lem up wrong ≡ errors 184
unfolding up wrong bit_errors_lem bits_of differences sliced of_bits lt
one_bit_each = refl

-- 0.0 is 10: both bits differ from 01's
all_bits : bit_errors_lem up (replicate 184 (of_bits binary32 0)) ≡ errors 368
unfolding up bit_errors_lem bits_of differences sliced of_bits lt
all_bits = refl

too_short : bit_errors_lem up (replicate 183 nan) ≡ refusal (bare 6)
unfolding up bit_errors_lem
too_short = refl

-- ---- the laws' hypotheses met: a not-a-number and -infinity are cut alike, and so are +infinity and 1.0
extreme : List Float
extreme = nan ∷ replicate 183 (inf false)

alike : List Float
alike = inf true ∷ replicate 183 (of_bits binary32 0x3f80_0000)

none_told : bit_errors_lem extreme alike ≡ errors 0
unfolding extreme alike bit_errors_lem bits_of differences sliced of_bits lt
none_told = refl

none_meets : Agree extreme alike
unfolding extreme alike
none_meets = (none_exactly extreme alike refl refl).0 none_told

at_most_meets : 184 ≤ 368
at_most_meets = at_most up wrong 184 one_bit_each

joined_meets : bit_errors_lem up wrong ≡ errors (count (replicate 100 (of_bits binary32 0x3f80_0000)) (replicate 100 nan) + count (replicate 84 (of_bits binary32 0x3f80_0000)) (replicate 84 nan))
unfolding up wrong
joined_meets = count_joined (replicate 100 (of_bits binary32 0x3f80_0000)) (replicate 100 nan) (replicate 84 (of_bits binary32 0x3f80_0000)) (replicate 84 nan) refl refl refl

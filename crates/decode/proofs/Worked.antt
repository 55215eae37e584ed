-- Document 01, 'Sums worked by hand', P3 to P11, with P6 to P8 as document 02 d has them: each is computed from the definitions. Assumes nothing.
use mathlib.Core.Path.{◌≡◌, refl}
use mathlib.Core.Bool.{Bool, true, false}
use mathlib.Core.List.{[], ◌∷◌}
use Prim.Native.Nat.{ℕ}
use lib.IntN.{pos}
use lib.ListN.{get_or}
use lib.Ieee.{Float, binary32, add, mul, sub, div, lt, le, eq, of_int, of_bits}
use Rattle.numbers.specs.Choice.{larger, smaller, size_of}
use Rattle.numbers.specs.Below.{any_below}
use Rattle.numbers.specs.Sum.{sum_to}
use Rattle.protocol.specs.declared.Kind.TheVariants.{Lsf}
use Rattle.protocol.specs.declared.SyncBurst.TheVariants.{Frame}
use Rattle.protocol.specs.Bursts.{signs_of, spelled, word_of, sign_of}
use Rattle.decode.specs.declared.Correlation.{Correlation}
use Rattle.decode.specs.Slicer.{sliced, outer, outer_below}
use Rattle.decode.specs.Correlator.{zero_unsigned, highest, lowest, gain_of, shift_of, symbol_of, distance_of, summed, diff_of, correlation, matches}

-- a whole number as f32
abbrev whole : ℕ → Float
whole n = of_int binary32 (pos n)

-- "LSF signs times k plus j": the eight values, by their places
unfoldable pub signal : Float → Float → ℕ → Float
signal k j i = add binary32 (mul binary32 (of_int binary32 (get_or (signs_of (Frame Lsf)) i (pos 0))) k) j

-- what they are answered, with all that the answer is computed by
unfoldable pub answer : Float → Float → Correlation
unfolding signal correlation zero_unsigned highest lowest gain_of shift_of diff_of summed distance_of symbol_of larger smaller size_of any_below sum_to signs_of spelled word_of sign_of add mul sub div lt eq of_int of_bits
answer k j = correlation (Frame Lsf) (signal k j)

unfoldable pub found : Float → Float → Bool
unfolding answer matches
found k j = matches (Frame Lsf) (signal k j)

-- "P3 LSF signs times 32: match, diff 0, gain 32, shift 0."
pub p3 : (found (whole 32) (whole 0) ≡ true) × (answer (whole 32) (whole 0) ≡ record { diff = whole 0; gain = whole 32; shift = whole 0 })
unfolding found
p3 = (refl, refl)

-- "P4 times 16: match."
pub p4 : found (whole 16) (whole 0) ≡ true
unfolding found
p4 = refl

-- "P5 times 15.5: none."
pub p5 : found (of_bits binary32 0x4178_0000) (whole 0) ≡ false
unfolding found
p5 = refl

-- document 02 d: "P6 becomes gain 20, shift 5, diff 0"
pub p6 : (found (whole 20) (whole 5) ≡ true) × (answer (whole 20) (whole 5) ≡ record { diff = whole 0; gain = whole 20; shift = whole 5 })
unfolding found
p6 = (refl, refl)

-- ".. P7 and P8 become matches with diff 0": plus 6, and plus 7
pub p7 : (found (whole 20) (whole 6) ≡ true) × (answer (whole 20) (whole 6) ≡ record { diff = whole 0; gain = whole 20; shift = whole 6 })
unfolding found
p7 = (refl, refl)

pub p8 : (found (whole 20) (whole 7) ≡ true) × (answer (whole 20) (whole 7) ≡ record { diff = whole 0; gain = whole 20; shift = whole 7 })
unfolding found
p8 = (refl, refl)

-- "P9 slicer: 0.0 gives 10."
pub p9 : sliced (whole 0) ≡ 1 ∷ 0 ∷ []
unfolding sliced lt le of_bits of_int
p9 = refl

-- "P10 0.667 gives 00."
pub p10 : sliced outer ≡ 0 ∷ 0 ∷ []
unfolding sliced lt le of_bits
p10 = refl

-- "P11 -0.667 gives 11."
pub p11 : sliced outer_below ≡ 1 ∷ 1 ∷ []
unfolding sliced lt le of_bits
p11 = refl

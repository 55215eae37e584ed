-- What an offset changes in the correlator's answer to whole values: nothing but the shift. Assumes nothing.
use Rattle.std.specs.Prelude.{◌≡◌, ℕ, suc, ◌+◌, ◌*◌, ℤ, pos, negsuc, ◌+ℤ◌, T, Float}
use Rattle.std.specs.Float.{binary32}
use Rattle.std.specs.Float.Ieee.{of_int}
use Rattle.std.specs.Float.Ieee.Scale.{finite}
use Rattle.std.specs.Float.Ieee.Positive.{den}
use Rattle.numbers.specs.Within.{plus, minus}
use Rattle.protocol.specs.declared.SyncBurst.{SyncBurst}
use Rattle.decode.specs.Correlator.{correlation, matches}

-- a whole number's part above zero, and the part below it
abbrev pub above : ℤ → ℕ
above (pos n) = n
above (negsuc n) = 0

abbrev pub below : ℤ → ℕ
below (pos n) = 0
below (negsuc n) = suc n

-- y is x + c, with no rounding: both are finite, and x is (plus x - minus x) / den x
abbrev pub MovedBy : ℤ → Float → Float → Type 0
MovedBy c x y = T (finite x) × T (finite y)
    × (plus y * den x + minus x * den y + below c * (den x * den y) ≡ plus x * den y + minus y * den x + above c * (den x * den y))

-- whole values, and the same with an offset
abbrev pub wholes : (ℕ → ℤ) → ℕ → Float
wholes z i = of_int binary32 (z i)

abbrev pub offset_by : ℤ → (ℕ → ℤ) → ℕ → Float
offset_by c z i = of_int binary32 (z i +ℤ c)

pub record OffsetFree (b : SyncBurst) (v w : ℕ → Float) (c : ℤ) : Type 0 where
  pub match : matches b w ≡ matches b v
  pub diff : (correlation b w).diff ≡ (correlation b v).diff
  pub gain : (correlation b w).gain ≡ (correlation b v).gain
  pub shift : MovedBy c (correlation b v).shift (correlation b w).shift

-- What the laws ask of a gain and a shift. Assumes nothing.
use Prim.Native.Nat.{ℕ, ◌*◌, ◌≤◌, ◌<◌}
use native.Mathlib.Nat.{lt_of_lt_of_le, mul-pos, zero-lt-suc}
use lib.Dec.{T}
use lib.Ieee.{Float}
use lib.Ieee.Scale.{finite}
use lib.Ieee.Positive.{den, den_pos}
use Rattle.numbers.specs.Within.{plus}

-- order: any finite shift and any finite gain above zero
pub record Scale (gain shift : Float) : Type 0 where
  pub gain_finite : T (finite gain)
  pub gain_above : 0 < plus gain
  pub shift_finite : T (finite shift)

-- the limit of the values, of the gain, and of a match's shift
abbrev pub million : ℕ
million = 1000000

-- widths: a gain of 16 at least, and 1,000,000 at most
pub record Sized (gain : Float) : Type 0 where
  pub least : 16 * den gain ≤ plus gain
  pub most : plus gain ≤ million * den gain

pub sized_above : {g : Float} → Sized g → 0 < plus g
sized_above {g} Z = lt_of_lt_of_le (mul-pos (zero-lt-suc 15) (den_pos g)) Z.least

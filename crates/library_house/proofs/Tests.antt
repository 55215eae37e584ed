-- What the tests of the exports show: that a number is a kind's. Assumes nothing.
use mathlib.Core.Path.{◌≡◌, ap}
use mathlib.Core.Bool.{Bool, true, false}
use mathlib.Core.List.{List}
use Prim.Native.Nat.{ℕ}
use lib.Ieee.{Float}
use Rattle.house.specs.Accept.{symbol_at, accepted}
use Rattle.library_codes.specs.Codes.{flag_number}
use Rattle.library_house.specs.Exports.{is_kind, kind_of, accepts_code}

pub no_kind : (number : ℕ) (symbols : List Float) → is_kind number ≡ false → 0 ≡ accepts_code number symbols
unfolding accepts_code
no_kind number symbols other = rw other

pub named_kind : (number : ℕ) (symbols : List Float) → is_kind number ≡ true → (good : Bool) → good ≡ accepted (kind_of number) (symbol_at symbols) → flag_number good ≡ accepts_code number symbols
unfolding accepts_code
named_kind number symbols named good said = rw named (ap flag_number said)

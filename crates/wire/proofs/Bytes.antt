-- The number of bytes, low first, and a number's bytes, as the library has them. Assumes nothing.
use mathlib.Core.Path.{◌≡◌, refl}
use mathlib.Core.List.{List, [], ◌∷◌, ◌++◌}
use Prim.Native.Nat.{ℕ, zero, suc, ◌+◌, ◌*◌, ◌/◌, ◌%◌, ◌≤◌, ◌<◌}
use native.Mathlib.Nat.{div-div-eq-div-mul}
use native.Mathlib.Omega.{arith}
use lib.ListN.{length, drop, get_or, replicate, drop_of_length-le}
use lib.Seq.{drop-cons}
use mir.Syntax.{w32, w64}
use Rattle.std.specs.Int.{from_le_bytes, to_le_bytes}
use Rattle.wire.specs.Bytes.{low_first, lows}

-- zeros after the bytes are of no account
pub low_first_zeros : (l : List ℕ) (n : ℕ) → low_first (l ++ replicate n 0) ≡ low_first l
unfolding low_first
low_first_zeros [] zero = refl
low_first_zeros [] (suc n) = rw (low_first_zeros [] n)
low_first_zeros (b ∷ l) n = rw (low_first_zeros l n)

-- byte by byte
module _ (l : List ℕ) where
  from_byte : (i : ℕ) → i < length l → low_first (drop i l) ≡ get_or l i 0 + 256 * low_first (drop (suc i) l)
  unfolding low_first
  from_byte i h = rw (drop-cons l i 0 h)

  past_end : (i : ℕ) → length l ≤ i → low_first (drop i l) ≡ 0
  unfolding low_first
  past_end i h = rw (drop_of_length-le l h)

  pub eight_bytes : length l ≡ 8 → from_le_bytes w64 l ≡ low_first l
  eight_bytes h =
      omega (arith, from_byte 0 (omega arith), from_byte 1 (omega arith), from_byte 2 (omega arith), from_byte 3 (omega arith), from_byte 4 (omega arith), from_byte 5 (omega arith), from_byte 6 (omega arith), from_byte 7 (omega arith), past_end 8 (omega arith))

  pub four_bytes : length l ≡ 4 → from_le_bytes w32 l ≡ low_first l
  four_bytes h =
      omega (arith, from_byte 0 (omega arith), from_byte 1 (omega arith), from_byte 2 (omega arith), from_byte 3 (omega arith), past_end 4 (omega arith))

  pub two_bytes : length l ≡ 2 → get_or l 0 0 + 256 * get_or l 1 0 ≡ low_first l
  two_bytes h = omega (arith, from_byte 0 (omega arith), from_byte 1 (omega arith), past_end 2 (omega arith))

-- a number's first bytes
module _ (number : ℕ) where
  pub lows_eight : to_le_bytes w64 number ≡ lows 8 number
  unfolding lows
  lows_eight = simp div-div-eq-div-mul

  pub lows_four : to_le_bytes w32 number ≡ lows 4 number
  unfolding lows
  lows_four = simp div-div-eq-div-mul

  pub lows_two : number < 0x1_0000 → number % 256 ∷ number / 256 ∷ [] ≡ lows 2 number
  unfolding lows
  lows_two h =
      let high : number / 256 % 256 ≡ number / 256 = omega arith in
      rw high

-- "The house format is hexadecimal .. 96 capital digits" (document 01, 'The two programs'): the digits as bytes. Assumes nothing.
use Rattle.std.specs.Prelude.{Bool, cond, List, [], ◌∷◌, ℕ, suc, eqb, ltb, get_or}

-- 0 to 9 and A to F, in the order of their values
unfoldable pub capitals : List ℕ
capitals = 0x30 ∷ 0x31 ∷ 0x32 ∷ 0x33 ∷ 0x34 ∷ 0x35 ∷ 0x36 ∷ 0x37 ∷ 0x38 ∷ 0x39 ∷ 0x41 ∷ 0x42 ∷ 0x43 ∷ 0x44 ∷ 0x45 ∷ 0x46 ∷ []

-- the digit with a value below sixteen
unfoldable pub digit_of : ℕ → ℕ
unfolding capitals
digit_of value = get_or capitals value 0

-- the place at which a byte stands in a list, and the list's length where it stands in none
unfoldable pub place_in : List ℕ → ℕ → ℕ
place_in [] byte = 0
place_in (b ∷ bs) byte = cond (eqb b byte) 0 (suc (place_in bs byte))

-- a digit's value, and sixteen for any other byte
unfoldable pub value_of : ℕ → ℕ
unfolding place_in capitals
value_of byte = place_in capitals byte

abbrev pub is_digit : ℕ → Bool
is_digit byte = ltb (value_of byte) 16

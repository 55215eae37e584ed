-- The numbers that a word holds, and when two floats are the same. Assumes nothing.
use Rattle.std.specs.Prelude.{◌≡◌, Bool, true, false, cond, List, ℕ, zero, suc, ◌+◌, ◌*◌, ◌-◌, ◌%◌, ◌<◌, min, ltb, leb, ℤ, length, get_or, Float}
use Rattle.std.specs.Float.{nan, binary32}
use Rattle.std.specs.Float.Ieee.{of_bits}
use Rattle.numbers.specs.Cut.{signed}
use Rattle.cases_text.specs.Places.{begins, between}

-- a digit's value by its letter, `0` to `9` and `a` to `f`; any other letter counts 0
unfoldable pub digit_of : ℕ → ℕ
digit_of letter =
    cond (ltb letter 48) 0
    (cond (leb letter 57) (letter - 48)
    (cond (ltb letter 97) 0
    (cond (leb letter 102) (letter - 97 + 10) 0)))

pub record Digit (letter r : ℕ) : Type 0 where
  pub value : r ≡ digit_of letter
  pub small : r < 16

-- a number with one digit more, or the largest u64 where that is less
unfoldable pub appended : ℕ → ℕ → ℕ → ℕ
appended base number digit = min (number * base + digit) 0xffff_ffff_ffff_ffff

-- the number that the first n letters of a word are
unfoldable pub number_to : ℕ → List ℕ → ℕ → ℕ
number_to base word zero = 0
number_to base word (suc n) = appended base (number_to base word n) (digit_of (get_or word n 0))

abbrev pub number_of : ℕ → List ℕ → ℕ
number_of base word = number_to base word (length word)

-- ---- what the functions promise
abbrev pub DecimalSays : List ℕ → ℕ → Type 0
DecimalSays word r = r ≡ number_of 10 word

abbrev pub HexadecimalSays : List ℕ → ℕ → Type 0
HexadecimalSays word r = r ≡ number_of 16 word

-- 110 is `n`, as in `nan`
unfoldable pub float_of : List ℕ → Float
float_of word = cond (begins word 110) nan (of_bits binary32 (number_of 16 word % 0x1_0000_0000))

abbrev pub FloatSays : List ℕ → Float → Type 0
FloatSays word r = r ≡ float_of word

-- 45 is `-`
unfoldable pub sample_of : List ℕ → ℤ
sample_of word = cond (begins word 45) (signed 15 true (number_of 10 (between word 1 (length word)))) (signed 15 false (number_of 10 word))

abbrev pub SampleSays : List ℕ → ℤ → Type 0
SampleSays word r = r ≡ sample_of word

-- the same float to the bit; not-a-number is one value here
abbrev pub SameFloatSays : Float → Float → Bool → Type 0
SameFloatSays a b r = (r ≡ true → a ≡ b) × (a ≡ b → r ≡ true)

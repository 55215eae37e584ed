-- Document 01, 'The two programs': what send writes of its first bad line. Assumes nothing.
use Rattle.std.specs.Prelude.{◌≡◌, cond, List, [], ◌∷◌, ◌++◌, ℕ, zero, suc, ◌+◌, ◌-◌, ◌*◌, ◌/◌, ◌%◌, ◌^◌, ltb, length, replicate}
use Rattle.numbers.specs.Firsts.{firsts}
use Rattle.house.specs.declared.Text.{Text}
use Rattle.house.specs.Line.{line_feed}

-- how often n is divided by ten until it is below ten, in at most so many turns
unfoldable pub tens_in : ℕ → ℕ → ℕ
tens_in zero n = 0
tens_in (suc turns) n = cond (ltb n 10) 0 (suc (tens_in turns (n / 10)))

-- n turns suffice: each leaves a smaller number
abbrev pub tens : ℕ → ℕ
tens n = tens_in n n

-- the decimal digit that has the weight 10 ^ place, as a byte
abbrev pub decimal_digit : ℕ → ℕ → ℕ
decimal_digit n place = 48 + n / 10 ^ place % 10

-- the decimal digits of n, the highest first
unfoldable pub decimal : ℕ → List ℕ
decimal n = firsts (λ (i : ℕ). decimal_digit n (tens n - i)) (suc (tens n))

-- the number that the first k of decimal digits stand for
unfoldable pub read_decimal : (ℕ → ℕ) → ℕ → ℕ
read_decimal byte zero = 0
read_decimal byte (suc k) = 10 * read_decimal byte k + (byte k - 48)

-- `bad line ` in bytes
abbrev pub heading : List ℕ
heading = 98 ∷ 97 ∷ 100 ∷ 32 ∷ 108 ∷ 105 ∷ 110 ∷ 101 ∷ 32 ∷ []

-- "writes `bad line N` and a line feed"
unfoldable pub bad_line_lem : ℕ → List ℕ
bad_line_lem n = heading ++ (decimal n ++ (line_feed ∷ []))

-- a text at the front of 40 places, and zeros after it
unfoldable pub in_room : List ℕ → Text
in_room text = record { bytes = text ++ replicate (40 - length text) 0; length = length text }

-- ---- what the function promises
abbrev pub BadLineTextSays : ℕ → Text → Type 0
BadLineTextSays n r = r ≡ in_room (bad_line_lem n)

-- Document 01, 'The two programs': a frame's 192 symbols as a line, and back. Assumes nothing.
use Rattle.std.specs.Prelude.{◌≡◌, Bool, cond, ◌&&◌, List, [], ◌∷◌, ◌++◌, ℕ, ◌+◌, ◌*◌, ◌/◌, ◌%◌, eqb, length, get_or, replicate, Float, Option, Some, None}
use Rattle.std.specs.Float.{nan, binary32}
use Rattle.std.specs.Float.Ieee.{of_bits}
use Rattle.numbers.specs.Below.{all_below}
use Rattle.numbers.specs.Firsts.{firsts}
use Rattle.decode.specs.Slicer.{sliced}
use Rattle.house.specs.Digits.{digit_of, value_of, is_digit}

-- "(01, 00, 10, 11 are 1, 1/3, -1/3, -1 as f32)", here in the order of the bits: 00, 01, 10, 11
unfoldable pub symbol_of : ℕ → Float
symbol_of two_bits = get_or (of_bits binary32 0x3eaa_aaab ∷ of_bits binary32 0x3f80_0000 ∷ of_bits binary32 0xbeaa_aaab ∷ of_bits binary32 0xbf80_0000 ∷ []) two_bits nan

-- a symbol's two bits, by the slicer
unfoldable pub bits_of : Float → ℕ
bits_of symbol = 2 * get_or (sliced symbol) 0 0 + get_or (sliced symbol) 1 0

-- the symbol that the slicer takes a value for
unfoldable pub nearest : Float → Float
nearest value = symbol_of (bits_of value)

abbrev pub line_feed : ℕ
line_feed = 10

-- "Any line that is not 96 capital digits and a line feed is bad"
unfoldable pub good_line : List ℕ → Bool
good_line line = all_below 96 (λ (i : ℕ). is_digit (get_or line i 0)) && (eqb (length line) 97 && eqb (get_or line 96 0) line_feed)

-- "first symbol in the high bits": of the two symbols that a digit's four bits make, the even one and the odd one
abbrev pub pair_in : ℕ → ℕ → ℕ
pair_in four i = cond (eqb (i % 2) 0) (four / 4) (four % 4)

abbrev pub bits_at : List ℕ → ℕ → ℕ
bits_at line i = pair_in (value_of (get_or line (i / 2) 0)) i

-- "each line's 192 symbols"
unfoldable pub symbols_of_lem : List ℕ → List Float
symbols_of_lem line = firsts (λ (i : ℕ). symbol_of (bits_at line i)) 192

-- what is given where there are none: 0.0
unfoldable pub no_symbols : List Float
no_symbols = replicate 192 (of_bits binary32 0)

-- a bad line has none
unfoldable pub read_line : List ℕ → Option (List Float)
read_line line = cond (good_line line) (Some (symbols_of_lem line)) None

-- "The house format is hexadecimal, one frame a line: 96 capital digits, first symbol in the high bits, then a line feed."
abbrev pub four_at : List Float → ℕ → ℕ
four_at symbols i = 4 * bits_of (get_or symbols (2 * i) nan) + bits_of (get_or symbols (2 * i + 1) nan)

unfoldable pub line_of : List Float → List ℕ
line_of symbols = firsts (λ (i : ℕ). digit_of (four_at symbols i)) 96 ++ (line_feed ∷ [])

-- ---- what the functions promise
abbrev pub LineSymbolsSays : List ℕ → Option (List Float) → Type 0
LineSymbolsSays line r = r ≡ read_line line

abbrev pub SymbolsLineSays : List Float → List ℕ → Type 0
SymbolsLineSays symbols r = r ≡ line_of symbols

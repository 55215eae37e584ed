-- Document 01, 'The two programs': which offered windows receive accepts. Assumes nothing.
use Rattle.std.specs.Prelude.{◌≡◌, Bool, List, ℕ, zero, suc, ◌+◌, ◌*◌, eqb, get_or, Float}
use Rattle.std.specs.Float.{nan}
use Rattle.protocol.specs.declared.Kind.{Kind}
use Rattle.protocol.specs.Bursts.{word_of}
use Rattle.house.specs.Digits.{value_of}
use Rattle.house.specs.Line.{bits_of}

-- the first n symbols sliced, "first symbol in the high bits"
unfoldable pub read_bits : (ℕ → Float) → ℕ → ℕ
read_bits v zero = 0
read_bits v (suc n) = 4 * read_bits v n + bits_of (v n)

-- a symbol by its place in a window, wherever that is kept
abbrev pub symbol_at : List Float → ℕ → Float
symbol_at symbols i = get_or symbols i nan

-- two bytes are eight symbols
abbrev pub sliced_word_lem : List Float → ℕ
sliced_word_lem symbols = read_bits (symbol_at symbols) 8

-- "accepts an offer exactly if its first two sliced bytes are the burst's word"
unfoldable pub accepted : Kind → (ℕ → Float) → Bool
accepted kind v = eqb (read_bits v 8) (word_of kind)

-- the word that a line begins with: two bytes are four digits
unfoldable pub word_in : List ℕ → ℕ
word_in line = 0x1000 * value_of (get_or line 0 0) + 0x100 * value_of (get_or line 1 0) + 0x10 * value_of (get_or line 2 0) + value_of (get_or line 3 0)

-- ---- what the function promises
abbrev pub AcceptsSays : Kind → List Float → Bool → Type 0
AcceptsSays kind symbols r = r ≡ accepted kind (symbol_at symbols)

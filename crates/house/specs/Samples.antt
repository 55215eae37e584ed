-- Document 01, 'The two programs': a sample as two bytes. Assumes nothing.
use Rattle.std.specs.Prelude.{◌≡◌, cond, List, [], ◌∷◌, ℕ, ◌+◌, ◌-◌, ◌*◌, ◌/◌, ◌%◌, ltb, ℤ, pos, negsuc}

-- two's complement in sixteen bits, the number of a pattern: from 0x8000 on it is the pattern less 0x1_0000, so that 0xffff is -1
unfoldable pub number_of : ℕ → ℤ
number_of pattern = cond (ltb pattern 0x8000) (pos pattern) (negsuc (0xffff - pattern))

-- and the pattern of a number
unfoldable pub pattern_of : ℤ → ℕ
pattern_of (pos n) = n
pattern_of (negsuc n) = 0xffff - n

-- "i16 samples, low byte first"
unfoldable pub sample_of : ℕ → ℕ → ℤ
sample_of low high = number_of (low + 256 * high)

unfoldable pub bytes_of : ℤ → List ℕ
bytes_of x = pattern_of x % 256 ∷ pattern_of x / 256 ∷ []

-- ---- what the functions promise
abbrev pub I16OfBytesSays : ℕ → ℕ → ℤ → Type 0
I16OfBytesSays low high r = r ≡ sample_of low high

abbrev pub BytesOfI16Says : ℤ → List ℕ → Type 0
BytesOfI16Says x r = r ≡ bytes_of x

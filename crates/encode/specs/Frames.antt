-- The two preambles and the end of transmission, 192 symbols each, and the zeros after the end. Assumes nothing.
use Rattle.std.specs.Prelude.{◌≡◌, cond, List, ℕ, ◌%◌, eqb, ltb, ℤ, pos, negsuc, get_or, Float}
use Rattle.std.specs.Float.{binary32}
use Rattle.std.specs.Float.Ieee.{of_bits, of_int, neg}
use Rattle.numbers.specs.Firsts.{firsts}
use Rattle.protocol.specs.declared.SyncBurst.TheVariants.{EndOfTransmission}
use Rattle.protocol.specs.Bursts.{signs_of}

-- a frame of 192 symbols by the sign of each
unfoldable pub frame_of : (ℕ → ℤ) → List Float
frame_of sign = firsts (λ (i : ℕ). of_int binary32 (sign i)) 192

-- the preamble: +1 and -1 in turn, +1 first
unfoldable pub preamble_sign : ℕ → ℤ
preamble_sign i = cond (eqb (i % 2) 0) (pos 1) (negsuc 0)

-- document 02 b): "a BERT preamble, the ordinary one with every sign turned (first symbol -1)"
unfoldable pub bert_preamble_symbol : ℕ → Float
bert_preamble_symbol i = neg (of_int binary32 (preamble_sign i))

-- a burst's signs, again and again
abbrev pub repeated_sign : List ℤ → ℕ → ℤ
repeated_sign signs i = get_or signs (i % 8) (pos 0)

-- the end of transmission: its burst, "end of transmission 555D", again and again
unfoldable pub end_sign : ℕ → ℤ
end_sign i = repeated_sign (signs_of EndOfTransmission) i

-- "End of transmission appends 80 zero symbols"
abbrev pub ending_symbol : ℕ → Float
ending_symbol i = cond (ltb i 192) (of_int binary32 (end_sign i)) (of_bits binary32 0)

-- ---- what the functions promise
abbrev pub GeneratePreambleSays : List Float → Type 0
GeneratePreambleSays r = r ≡ frame_of preamble_sign

abbrev pub GenerateBertPreambleSays : List Float → Type 0
GenerateBertPreambleSays r = r ≡ firsts bert_preamble_symbol 192

abbrev pub GenerateEndOfTransmissionSays : List Float → Type 0
GenerateEndOfTransmissionSays r = r ≡ frame_of end_sign

abbrev pub GenerateEndingSays : List Float → Type 0
GenerateEndingSays r = r ≡ firsts ending_symbol 272

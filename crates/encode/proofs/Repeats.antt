-- Each fixed frame of the Rust is its burst, again and again; so the preamble's row in the table of bursts is the preamble's first eight symbols.
-- The BERT preamble is the preamble, turned. Assumes nothing.
use mathlib.Core.Path.{◌≡◌, refl}
use mathlib.Core.List.{map}
use Prim.Native.Nat.{ℕ}
use lib.ListN.{get_or, take}
use lib.Ieee.{nan, binary32, of_bits, of_int, neg, mul}
use Rattle.numbers.specs.Firsts.{firsts}
use Rattle.protocol.specs.declared.SyncBurst.TheVariants.{Preamble, EndOfTransmission}
use Rattle.protocol.specs.Bursts.{signs_of}
use Rattle.encode.specs.Frames.{frame_of, preamble_sign, bert_preamble_symbol, end_sign, repeated_sign}

-- one computation over all 192 places
pub preamble_repeats : frame_of (repeated_sign (signs_of Preamble)) ≡ frame_of preamble_sign
unfolding frame_of firsts preamble_sign signs_of
preamble_repeats = refl

-- each symbol times -1.0 is minus it
pub bert_turns : firsts (λ (i : ℕ). mul binary32 (get_or (frame_of preamble_sign) i nan) (of_bits binary32 0xbf80_0000)) 192 ≡ firsts bert_preamble_symbol 192
unfolding frame_of firsts preamble_sign bert_preamble_symbol of_bits of_int neg mul
bert_turns = refl

-- "first symbol -1"
pub bert_first : bert_preamble_symbol 0 ≡ of_bits binary32 0xbf80_0000
unfolding preamble_sign bert_preamble_symbol of_bits of_int neg
bert_first = refl

pub end_repeats : frame_of (repeated_sign (signs_of EndOfTransmission)) ≡ frame_of end_sign
unfolding frame_of end_sign
end_repeats = refl

-- the row that has no word: it is what the preamble begins with
pub preamble_row : map (of_int binary32) (signs_of Preamble) ≡ take 8 (frame_of preamble_sign)
unfolding frame_of firsts preamble_sign signs_of
preamble_row = refl

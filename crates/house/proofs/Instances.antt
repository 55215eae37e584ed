-- Instances that meet the hypotheses of the laws, and lines that are bad. Assumes nothing.
use Rattle.std.specs.Prelude.{Some}
use mathlib.Core.Path.{◌≡◌, refl}
use mathlib.Core.Bool.{Bool, false}
use mathlib.Core.List.{List, [], ◌∷◌, ◌++◌}
use Prim.Native.Nat.{ℕ, ◌<◌}
use lib.Dec.{T, lit<, lit≤}
use lib.IntN.{pos, negsuc}
use lib.ListN.{get_or, replicate}
use lib.Ieee.{Float, binary32, of_bits, of_int, lt, le, eq}
use lib.Ieee.Bits.{is_true}
use Rattle.numbers.specs.Below.{all_below}
use Rattle.numbers.specs.Firsts.{firsts}
use Rattle.protocol.specs.declared.Kind.{Kind}
use Rattle.protocol.specs.declared.Kind.TheVariants.{Lsf, Bert, Stream, Packet}
use Rattle.protocol.specs.declared.SyncBurst.TheVariants.{Frame}
use Rattle.protocol.specs.Bursts.{word_of, signs_of, spelled, sign_of}
use Rattle.decode.specs.Slicer.{sliced}
use Rattle.house.specs.Digits.{capitals, place_in, value_of}
use Rattle.house.specs.Line.{line_feed, symbol_of, bits_of, good_line, symbols_of_lem, read_line, line_of}
use Rattle.house.specs.Samples.{sample_of, bytes_of, number_of, pattern_of}
use Rattle.house.specs.BadLine.{tens_in, decimal, bad_line_lem}
use Rattle.house.specs.Accept.{symbol_at, read_bits, accepted}
use Rattle.house.proofs.RoundTrip.{line_back, line_there_and_back}
use Rattle.house.proofs.Lines.{read_good}
use Rattle.house.proofs.Samples.{sample_back, bytes_back}
use Rattle.house.proofs.DecimalText.{no_leading_zero}
use Rattle.house.proofs.Word.{one_kind}

-- ---- lines: four bytes, 92 digits 0 and an end
line : ℕ → ℕ → ℕ → ℕ → ℕ → List ℕ
line a b c d end = a ∷ b ∷ c ∷ d ∷ (replicate 92 0x30 ++ (end ∷ []))

-- "Whole case: the input is one line, 55F7 and 92 digits 0."
whole_case : List ℕ
unfolding line
whole_case = line 0x35 0x35 0x46 0x37 line_feed

whole_case_good : T (good_line whole_case)
unfolding whole_case good_line all_below value_of place_in capitals
whole_case_good = tt

whole_case_back : line_of (symbols_of_lem whole_case) ≡ whole_case
whole_case_back = line_back whole_case whole_case_good

whole_case_read : read_line whole_case ≡ Some (symbols_of_lem whole_case)
whole_case_read = read_good whole_case (is_true (good_line whole_case) whole_case_good)

whole_case_again : line_of (symbols_of_lem whole_case) ≡ whole_case
whole_case_again = line_there_and_back whole_case (line_of (symbols_of_lem whole_case)) (symbols_of_lem whole_case) (read_line whole_case) refl whole_case_read refl

whole_case_accepted : T (accepted Lsf (symbol_at (symbols_of_lem whole_case)))
unfolding whole_case accepted read_bits bits_of symbols_of_lem firsts symbol_of value_of place_in capitals sliced word_of lt le eq of_bits
whole_case_accepted = tt

-- lower case, a byte past each stretch of digits, a carriage return for the line feed, a line feed too early, and a last line without one
bad : List ℕ → Bool
unfolding good_line all_below value_of place_in capitals line
bad l = good_line l

lower_case_bad : bad (line 0x35 0x35 0x66 0x37 line_feed) ≡ false
unfolding bad
lower_case_bad = refl

past_nine_bad : bad (line 0x35 0x35 0x3a 0x37 line_feed) ≡ false
unfolding bad
past_nine_bad = refl

past_f_bad : bad (line 0x35 0x35 0x47 0x37 line_feed) ≡ false
unfolding bad
past_f_bad = refl

carriage_return_bad : bad (line 0x35 0x35 0x46 0x37 13) ≡ false
unfolding bad
carriage_return_bad = refl

early_end_bad : bad (line 0x35 0x35 0x46 line_feed line_feed) ≡ false
unfolding bad
early_end_bad = refl

no_end_bad : bad (0x35 ∷ 0x35 ∷ 0x46 ∷ 0x37 ∷ replicate 92 0x30) ≡ false
unfolding bad
no_end_bad = refl

too_long_bad : bad (line 0x35 0x35 0x46 0x37 line_feed ++ (line_feed ∷ [])) ≡ false
unfolding bad
too_long_bad = refl

-- ---- samples: the low byte comes first, and the ends of the range
minus_two : sample_of 0xfe 0xff ≡ negsuc 1
unfolding sample_of number_of
minus_two = refl

low_first_lem : bytes_of (pos 0x1234) ≡ 0x34 ∷ 0x12 ∷ []
unfolding bytes_of pattern_of
low_first_lem = refl

lowest_back : sample_of (get_or (bytes_of (negsuc 32767)) 0 0) (get_or (bytes_of (negsuc 32767)) 1 0) ≡ negsuc 32767
lowest_back = sample_back (negsuc 32767) (lit< tt)

ones_back : bytes_of (sample_of 0xff 0xff) ≡ 0xff ∷ 0xff ∷ []
ones_back = bytes_back 0xff 0xff (lit< tt) (lit< tt)

-- ---- the text: `bad line 0`, `bad line 1`, `bad line 120`
abbrev front : List ℕ → List ℕ
front end = 98 ∷ 97 ∷ 100 ∷ 32 ∷ 108 ∷ 105 ∷ 110 ∷ 101 ∷ 32 ∷ end

text_0 : bad_line_lem 0 ≡ front (48 ∷ 10 ∷ [])
unfolding bad_line_lem decimal firsts tens_in
text_0 = refl

text_120 : bad_line_lem 120 ≡ front (49 ∷ 50 ∷ 48 ∷ 10 ∷ [])
unfolding bad_line_lem decimal firsts tens_in
text_120 = refl

text_largest_starts : 48 < get_or (decimal 18446744073709551615) 0 0
text_largest_starts = no_leading_zero 18446744073709551615 (lit≤ tt)

-- ---- each kind's own burst is accepted
own : Kind → ℕ → Float
own kind i = of_int binary32 (get_or (signs_of (Frame kind)) i (pos 0))

own_accepted : (kind : Kind) → T (accepted kind (own kind))
unfolding own accepted read_bits bits_of sliced word_of signs_of spelled sign_of lt le eq of_bits of_int
own_accepted Lsf = tt
own_accepted Bert = tt
own_accepted Stream = tt
own_accepted Packet = tt

own_once : (j k : Kind) → T (accepted k (own j)) → j ≡ k
own_once j k h = one_kind j k (own j) (own_accepted j) h

-- At 24 kHz an LSF burst, and on the next sample a Stream burst, a later-listed kind, with a smaller diff: the frame is the new one's, and marked. Assumes nothing.
use Rattle.std.specs.Prelude.{Some}
use mathlib.Core.Path.{◌≡◌, refl, ap, ◌∙◌}
use mathlib.Core.Bool.{true, false}
use mathlib.Core.List.{List, [], ◌∷◌, ◌++◌, map}
use Prim.Native.Nat.{◌+◌, ◌*◌}
use lib.Dec.{T, lit≤}
use lib.IntN.{ℤ, pos, negsuc}
use lib.Ieee.{Float, binary32, of_bits, of_int, add, sub, mul, div, neg, lt, eq}
use Rattle.numbers.specs.Sum.{sum_to}
use Rattle.numbers.specs.Firsts.{firsts}
use Rattle.numbers.specs.Choice.{larger, smaller, size_of}
use Rattle.numbers.specs.Below.{any_below, all_below}
use Rattle.shaping.specs.Taps.{taps, even_taps}
use Rattle.shaping.specs.Sum.{dot}
use Rattle.protocol.specs.Bursts.{signs_of}
use Rattle.protocol.specs.declared.Kind.TheVariants.{Lsf, Stream}
use Rattle.protocol.specs.declared.SyncBurst.TheVariants.{Frame}
use Rattle.decode.specs.declared.Correlation.{Correlation}
use Rattle.decode.specs.Correlator.{zero_unsigned, highest, lowest, gain_of, shift_of, symbol_of, distance_of, summed, diff_of, correlation, matches}
use Rattle.search.specs.Search.{same_kind}
use Rattle.demodulator_run.specs.Filter.{sample_no_lem, filtered}
use Rattle.demodulator_run.specs.Marks.{FellDue, log_all}
use Rattle.demodulator_run.specs.Demands.{at, In, shown_at, taken_at_lem}
use Rattle.demodulator_run.proofs.Pass.{Step, pass_hit}
use Rattle.demodulator_examples.proofs.Table.{all_sixteen, listed, matched}
use Rattle.demodulator_examples.proofs.Fits.{Fits, tested, fits}
use Rattle.demodulator_examples.proofs.Sketch24.{Sketch24, calls24, ear24, correlates24, due24}

-- the first 35; two more follow, and 950 zeros. The smallest samples, in the sum of their squares, whose filtered values at 1, 6, .. 36 are
-- the signs of the one burst times 17, and at 2, 7, .. 37 those of the other, rounded; but those at 6, 16, 26 and 36 less by a fiftieth
unfoldable pub front : List ℤ
front =
    negsuc 5319 ∷ pos 8551 ∷ pos 4097 ∷ negsuc 18695 ∷ pos 13289 ∷ negsuc 4915 ∷ pos 2687 ∷ pos 15412 ∷ negsuc 23962 ∷ negsuc 7605
    ∷ pos 26378 ∷ negsuc 4000 ∷ negsuc 9752 ∷ pos 5795 ∷ pos 171 ∷ negsuc 11157 ∷ negsuc 1957 ∷ pos 26027 ∷ negsuc 3188 ∷ negsuc 17739
    ∷ negsuc 11071 ∷ pos 22591 ∷ pos 3441 ∷ negsuc 1826 ∷ negsuc 4844 ∷ negsuc 4225 ∷ pos 960 ∷ pos 672 ∷ pos 635 ∷ pos 163 ∷ negsuc 301
    ∷ negsuc 683 ∷ negsuc 82 ∷ pos 363 ∷ pos 463 ∷ []

-- F(0) to F(37)
unfoldable pub table : List Float
table = map (of_bits binary32) (
    0x0000_0000 ∷ 0x4188_002e ∷ 0xc188_022a ∷ 0xc217_a92d ∷ 0x421e_c140 ∷ 0x4173_419c ∷ 0x4185_4bff ∷ 0xc188_01c8 ∷ 0xc2b1_2c7a
    ∷ 0x414b_7968 ∷ 0x42c3_1ba1 ∷ 0x4188_0928 ∷ 0xc187_f57a ∷ 0xc13a_b268 ∷ 0xc1fb_00cb ∷ 0xc1bd_9ab1 ∷ 0x4185_25fe ∷ 0xc188_1146
    ∷ 0xc34e_9fc8 ∷ 0xc38e_5afb ∷ 0xc33c_2259 ∷ 0xc186_f6b8 ∷ 0x4189_255c ∷ 0x419c_ff4c ∷ 0xc12f_a564 ∷ 0xc1fb_e83c ∷ 0xc186_138b
    ∷ 0x4187_0542 ∷ 0x4267_b7a2 ∷ 0x4296_fa09 ∷ 0x4265_298c ∷ 0x4188_f391 ∷ 0xc187_4296 ∷ 0xc1eb_e879 ∷ 0xc1c9_2ad3 ∷ 0xc1a1_afbe
    ∷ 0xc187_04da ∷ 0x4186_dca5 ∷ [])

pub tabled : firsts (filtered even_taps 5 (front ++ (pos 214 ∷ negsuc 389 ∷ []))) 38 ≡ table
unfolding front table firsts filtered sample_no_lem dot sum_to even_taps taps of_bits of_int add mul
tabled = refl

passes : T (tested 5 35 front (pos 214) (negsuc 389) table Lsf (same_kind Stream))
unfolding tested front all_sixteen all_below matched table of_bits matches correlation diff_of summed sum_to distance_of symbol_of shift_of gain_of highest lowest zero_unsigned larger smaller size_of add sub mul div lt eq neg of_int signs_of any_below
passes = tt

pub facts : Fits 5 35 front (pos 214) (negsuc 389) table Lsf (same_kind Stream)
facts = fits 5 35 front (pos 214) (negsuc 389) table Lsf (same_kind Stream) passes

-- the second diff is not above the first
diffs : lt (correlation (Frame Lsf) (listed 5 table 36)).diff (correlation (Frame Stream) (listed 5 table 37)).diff ≡ false
unfolding table of_bits matches correlation diff_of summed sum_to distance_of symbol_of shift_of gain_of highest lowest zero_unsigned larger smaller size_of add sub mul div lt eq neg of_int signs_of any_below
diffs = refl

abbrev pub later_smaller24 : Sketch24
later_smaller24 = record { front = front; x = pos 214; y = negsuc 389; table = table; kind = Lsf; hit = same_kind Stream; tabled = tabled; facts = facts }

compared : lt (at (ear24 later_smaller24) Lsf 36).diff (at (ear24 later_smaller24) Stream 37).diff ≡ false
compared =
    ap (λ (c : Correlation). lt c.diff (at (ear24 later_smaller24) Stream 37).diff) (correlates24 later_smaller24 36 (lit≤ tt) Lsf)
    ∙ ap (λ (c : Correlation). lt (correlation (Frame Lsf) (listed 5 table 36)).diff c.diff) (correlates24 later_smaller24 37 (lit≤ tt) Stream)
    ∙ diffs

-- 36 + 920, and 920 less the reported age after 37
pub marked_due_24 : In (FellDue 956 (shown_at (ear24 later_smaller24) Stream 37 1 true)) (log_all even_taps 5 (calls24 later_smaller24))
marked_due_24 =
    due24 later_smaller24 (taken_at_lem (ear24 later_smaller24) Stream 37) 1 true 919 (lit≤ tt) (lit≤ tt)
    (λ t. (Some (37 + 384 * 5), ap (λ (s : Step). s.control) (pass_hit 5 (λ i. at (ear24 later_smaller24) i 37) t false 37 (taken_at_lem (ear24 later_smaller24) Lsf 36) Stream false compared)))

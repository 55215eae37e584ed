-- At 24 kHz a Stream burst, and on the next sample an LSF burst, an earlier-listed kind, with a larger diff: the frame is due 919 after the take. Assumes nothing.
use Rattle.std.specs.Prelude.{Some}
use mathlib.Core.Path.{◌≡◌, refl, ap, ◌∙◌}
use mathlib.Core.Bool.{true, false}
use mathlib.Core.List.{List, [], ◌∷◌, ◌++◌, map}
use Prim.Native.Nat.{◌+◌, ◌*◌}
use lib.Dec.{T, lit≤}
use lib.IntN.{ℤ, pos, negsuc}
use lib.Ieee.{Float, binary32, of_bits, of_int, add, sub, mul, div, neg, lt, eq}
use Rattle.numbers.specs.Sum.{sum_to}
use Rattle.numbers.specs.Firsts.{firsts}
use Rattle.numbers.specs.Choice.{larger, smaller, size_of}
use Rattle.numbers.specs.Below.{any_below, all_below}
use Rattle.shaping.specs.Taps.{taps, even_taps}
use Rattle.shaping.specs.Sum.{dot}
use Rattle.protocol.specs.Bursts.{signs_of}
use Rattle.protocol.specs.declared.Kind.TheVariants.{Lsf, Stream}
use Rattle.protocol.specs.declared.SyncBurst.TheVariants.{Frame}
use Rattle.decode.specs.declared.Correlation.{Correlation}
use Rattle.decode.specs.Correlator.{zero_unsigned, highest, lowest, gain_of, shift_of, symbol_of, distance_of, summed, diff_of, correlation, matches}
use Rattle.search.specs.Search.{same_kind}
use Rattle.search.specs.TakenBurst.{aged}
use Rattle.demodulator_run.specs.Filter.{sample_no_lem, filtered}
use Rattle.demodulator_run.specs.Marks.{FellDue, log_all}
use Rattle.demodulator_run.specs.Demands.{at, In, shown_at, taken_at_lem}
use Rattle.demodulator_run.proofs.Pass.{Step, pass_hit}
use Rattle.demodulator_examples.proofs.Table.{all_sixteen, listed, matched}
use Rattle.demodulator_examples.proofs.Fits.{Fits, tested, fits}
use Rattle.demodulator_examples.proofs.Sketch24.{Sketch24, calls24, ear24, correlates24, due24}

-- the first 35; two more follow, and 950 zeros. The smallest samples, in the sum of their squares, whose filtered values at 1, 6, .. 36 are
-- the signs of the one burst times 17, and at 2, 7, .. 37 those of the other, rounded
unfoldable pub front : List ℤ
front =
    pos 5320 ∷ negsuc 8550 ∷ negsuc 4072 ∷ pos 18647 ∷ negsuc 13296 ∷ pos 5039 ∷ negsuc 2801 ∷ negsuc 15439 ∷ pos 24039 ∷ pos 7630
    ∷ negsuc 26442 ∷ pos 4021 ∷ pos 9741 ∷ negsuc 5801 ∷ negsuc 142 ∷ pos 11201 ∷ pos 1907 ∷ negsuc 26076 ∷ pos 3210 ∷ pos 17787 ∷ pos 11091
    ∷ negsuc 22654 ∷ negsuc 3463 ∷ pos 1824 ∷ pos 4859 ∷ pos 4245 ∷ negsuc 950 ∷ negsuc 674 ∷ negsuc 641 ∷ negsuc 168 ∷ pos 302 ∷ pos 692
    ∷ pos 84 ∷ negsuc 363 ∷ negsuc 464 ∷ []

-- F(0) to F(37)
unfoldable pub table : List Float
table = map (of_bits binary32) (
    0x0000_0000 ∷ 0xc188_002e ∷ 0x4188_022a ∷ 0x4217_5aa4 ∷ 0xc21e_509b ∷ 0xc170_bb58 ∷ 0xc188_025c ∷ 0x4187_ff80 ∷ 0x42b1_ad35
    ∷ 0xc14a_f678 ∷ 0xc2c3_7249 ∷ 0xc188_0364 ∷ 0x4187_f664 ∷ 0x413b_c1e0 ∷ 0x41fb_7a88 ∷ 0x41bc_8599 ∷ 0xc187_e539 ∷ 0x4188_048c
    ∷ 0x434f_2d36 ∷ 0x438e_b9e2 ∷ 0x433c_99f3 ∷ 0x4187_a092 ∷ 0xc187_f838 ∷ 0xc199_d2be ∷ 0x413a_7e0e ∷ 0x4200_eaac ∷ 0x418a_0b39
    ∷ 0xc186_3716 ∷ 0xc268_786b ∷ 0xc297_68b6 ∷ 0xc265_4462 ∷ 0xc187_8587 ∷ 0x4189_0686 ∷ 0x41ed_2b04 ∷ 0x41ca_5a25 ∷ 0x41a4_28ab
    ∷ 0x418a_e034 ∷ 0xc185_7c31 ∷ [])

pub tabled : firsts (filtered even_taps 5 (front ++ (negsuc 214 ∷ pos 392 ∷ []))) 38 ≡ table
unfolding front table firsts filtered sample_no_lem dot sum_to even_taps taps of_bits of_int add mul
tabled = refl

passes : T (tested 5 35 front (negsuc 214) (pos 392) table Stream (same_kind Lsf))
unfolding tested front all_sixteen all_below matched table of_bits matches correlation diff_of summed sum_to distance_of symbol_of shift_of gain_of highest lowest zero_unsigned larger smaller size_of add sub mul div lt eq neg of_int signs_of any_below
passes = tt

pub facts : Fits 5 35 front (negsuc 214) (pos 392) table Stream (same_kind Lsf)
facts = fits 5 35 front (negsuc 214) (pos 392) table Stream (same_kind Lsf) passes

-- the second diff is above the first
diffs : lt (correlation (Frame Stream) (listed 5 table 36)).diff (correlation (Frame Lsf) (listed 5 table 37)).diff ≡ true
unfolding table of_bits matches correlation diff_of summed sum_to distance_of symbol_of shift_of gain_of highest lowest zero_unsigned larger smaller size_of add sub mul div lt eq neg of_int signs_of any_below
diffs = refl

abbrev pub earlier_larger24 : Sketch24
earlier_larger24 = record { front = front; x = negsuc 214; y = pos 392; table = table; kind = Stream; hit = same_kind Lsf; tabled = tabled; facts = facts }

compared : lt (at (ear24 earlier_larger24) Stream 36).diff (at (ear24 earlier_larger24) Lsf 37).diff ≡ true
compared =
    ap (λ (c : Correlation). lt c.diff (at (ear24 earlier_larger24) Lsf 37).diff) (correlates24 earlier_larger24 36 (lit≤ tt) Stream)
    ∙ ap (λ (c : Correlation). lt (correlation (Frame Stream) (listed 5 table 36)).diff c.diff) (correlates24 earlier_larger24 37 (lit≤ tt) Lsf)
    ∙ diffs

-- 36 + 919
pub corner_due_24 : In (FellDue 955 (shown_at (ear24 earlier_larger24) Stream 36 2 false)) (log_all even_taps 5 (calls24 earlier_larger24))
corner_due_24 =
    due24 earlier_larger24 (aged (taken_at_lem (ear24 earlier_larger24) Stream 36)) 2 false 918 (lit≤ tt) (lit≤ tt)
    (λ t. (Some (37 + 384 * 5), ap (λ (s : Step). s.control) (pass_hit 5 (λ i. at (ear24 earlier_larger24) i 37) t false 37 (taken_at_lem (ear24 earlier_larger24) Stream 36) Lsf true compared)))

-- An LSF burst, and on the next sample a Stream burst, a later-listed kind, with a smaller diff. Assumes nothing.
use mathlib.Core.Path.{◌≡◌, refl}
use mathlib.Core.Bool.{false}
use mathlib.Core.List.{List, [], ◌∷◌, ◌++◌, map}
use lib.Dec.{T}
use lib.IntN.{ℤ, pos, negsuc}
use lib.Ieee.{Float, binary32, of_bits, of_int, add, sub, mul, div, neg, lt, eq}
use Rattle.numbers.specs.Sum.{sum_to}
use Rattle.numbers.specs.Firsts.{firsts}
use Rattle.numbers.specs.Choice.{larger, smaller, size_of}
use Rattle.numbers.specs.Below.{any_below, all_below}
use Rattle.shaping.specs.Taps.{taps}
use Rattle.shaping.specs.Sum.{dot}
use Rattle.protocol.specs.Bursts.{signs_of}
use Rattle.protocol.specs.declared.Kind.TheVariants.{Lsf, Stream}
use Rattle.protocol.specs.declared.SyncBurst.TheVariants.{Frame}
use Rattle.decode.specs.Correlator.{zero_unsigned, highest, lowest, gain_of, shift_of, symbol_of, distance_of, summed, diff_of, correlation, matches}
use Rattle.search.specs.Search.{same_kind}
use Rattle.demodulator_run.specs.Filter.{sample_no_lem, filtered}
use Rattle.demodulator_examples.proofs.Table.{all_sixteen, listed, matched, silent}
use Rattle.demodulator_examples.proofs.Fits.{Fits, tested, fits}
use Rattle.demodulator_examples.proofs.Sketch.{Sketch}

-- the first 70; two more follow
unfoldable pub front : List ℤ
front =
    negsuc 4787 ∷ pos 9604 ∷ negsuc 5137 ∷ negsuc 749 ∷ pos 936 ∷ pos 882 ∷ negsuc 0 ∷ negsuc 977 ∷ negsuc 1569 ∷ negsuc 1570 ∷ negsuc 1016 ∷ pos 8844 ∷ negsuc 546 ∷ negsuc 1264 ∷ negsuc 1631
    ∷ negsuc 1650 ∷ negsuc 1372 ∷ negsuc 889 ∷ negsuc 310 ∷ pos 250 ∷ pos 698 ∷ pos 6779 ∷ pos 174 ∷ negsuc 929 ∷ negsuc 1690 ∷ negsuc 1986 ∷ negsuc 1800 ∷ negsuc 1218 ∷ negsuc 403 ∷ pos 449
    ∷ pos 1153 ∷ pos 3198 ∷ pos 304 ∷ pos 109 ∷ negsuc 101 ∷ negsuc 288 ∷ negsuc 411 ∷ negsuc 440 ∷ negsuc 363 ∷ negsuc 186 ∷ pos 63 ∷ negsuc 1344 ∷ pos 1090 ∷ pos 1491 ∷ pos 1625 ∷ pos 1479
    ∷ pos 1096 ∷ pos 557 ∷ negsuc 30 ∷ negsuc 558 ∷ negsuc 935 ∷ negsuc 2829 ∷ negsuc 509 ∷ negsuc 75 ∷ pos 316 ∷ pos 598 ∷ pos 728 ∷ pos 700 ∷ pos 537 ∷ pos 284 ∷ pos 3 ∷ negsuc 1223 ∷ negsuc 171
    ∷ negsuc 115 ∷ negsuc 42 ∷ pos 31 ∷ pos 89 ∷ pos 124 ∷ pos 129 ∷ pos 109 ∷ []

-- F(0) to F(73)
unfoldable pub table : List Float
table = map (of_bits binary32) (
    0x0000_0000 ∷ 0x4174_cd20 ∷ 0xc185_4858 ∷ 0xc01b_9280 ∷ 0x3f04_f26c ∷ 0xbfd3_1a3e ∷ 0xc069_736e ∷ 0xc014_da6d ∷ 0x4033_fc1d ∷ 0x411e_a069 ∷ 0x417b_e42f ∷ 0x4188_061e ∷ 0xc187_f8bd
    ∷ 0xc1b0_bc45 ∷ 0xc1a4_01eb ∷ 0xc14e_1dfa ∷ 0xbfab_2528 ∷ 0x4131_259e ∷ 0x41a8_5b21 ∷ 0x41ce_8e4f ∷ 0x41be_edf1 ∷ 0x4174_b8e8 ∷ 0xc185_4c0b ∷ 0xc1db_866f ∷ 0xc1e8_1642 ∷ 0xc1a8_432a
    ∷ 0xc0ba_036a ∷ 0x4143_b54e ∷ 0x41dd_2158 ∷ 0x420d_0256 ∷ 0x41fb_deab ∷ 0x4174_9d30 ∷ 0xc185_6263 ∷ 0xc233_48f8 ∷ 0xc290_81b0 ∷ 0xc2bc_8507 ∷ 0xc2d5_b20c ∷ 0xc2d7_1d67 ∷ 0xc2c0_055d
    ∷ 0xc294_1905 ∷ 0xc235_cffd ∷ 0xc173_d8b8 ∷ 0x4185_8466 ∷ 0x4204_203c ∷ 0x4212_6b5d ∷ 0x41e0_5f30 ∷ 0x412b_9604 ∷ 0xc11f_e944 ∷ 0xc1df_3cff ∷ 0xc215_4385 ∷ 0xc209_4545 ∷ 0xc18d_6de0
    ∷ 0x4182_8867 ∷ 0x4247_b42c ∷ 0x42a5_8094 ∷ 0x42da_116f ∷ 0x42f8_29d3 ∷ 0x42fa_4a1a ∷ 0x42df_c17b ∷ 0x42ac_aef2 ∷ 0x4252_1d73 ∷ 0x4178_48de ∷ 0xc183_4ba6 ∷ 0xc239_1cbd ∷ 0xc288_8c52
    ∷ 0xc2a2_0352 ∷ 0xc2a9_529c ∷ 0xc2a1_3858 ∷ 0xc28d_7c38 ∷ 0xc262_6e80 ∷ 0xc21a_8ca8 ∷ 0xc179_1658 ∷ 0x4183_05e7 ∷ 0x4270_f115 ∷ [])

pub tabled : firsts (filtered taps 10 (front ++ (pos 68 ∷ negsuc 197 ∷ pos 0 ∷ []))) 74 ≡ table
unfolding front table firsts filtered sample_no_lem dot sum_to taps of_bits of_int add mul
tabled = refl

passes : T (tested 10 70 front (pos 68) (negsuc 197) table Lsf (same_kind Stream))
unfolding tested front all_sixteen all_below matched table of_bits matches correlation diff_of summed sum_to distance_of symbol_of shift_of gain_of highest lowest zero_unsigned larger smaller size_of add sub mul div lt eq neg of_int signs_of any_below
passes = tt

pub facts : Fits 10 70 front (pos 68) (negsuc 197) table Lsf (same_kind Stream)
facts = fits 10 70 front (pos 68) (negsuc 197) table Lsf (same_kind Stream) passes

pub over : T (silent 10 table 73)
unfolding matched table of_bits matches correlation diff_of summed sum_to distance_of symbol_of shift_of gain_of highest lowest zero_unsigned larger smaller size_of add sub mul div lt eq neg of_int signs_of any_below
over = tt

-- the second diff is not above the first
pub diffs : lt (correlation (Frame Lsf) (listed 10 table 71)).diff (correlation (Frame Stream) (listed 10 table 72)).diff ≡ false
unfolding table of_bits matches correlation diff_of summed sum_to distance_of symbol_of shift_of gain_of highest lowest zero_unsigned larger smaller size_of add sub mul div lt eq neg of_int signs_of any_below
diffs = refl

abbrev pub later_smaller : Sketch
later_smaller = record {
  front = front;
  x = pos 68;
  y = negsuc 197;
  table = table;
  kind = Lsf;
  hit = same_kind Stream;
  tabled = tabled;
  facts = facts;
  lost = refl;
  over = over;
}

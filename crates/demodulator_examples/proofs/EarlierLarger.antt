-- A Stream burst, and on the next sample an LSF burst, an earlier-listed kind, with a larger diff. Assumes nothing.
use mathlib.Core.Path.{◌≡◌, refl}
use mathlib.Core.Bool.{true}
use mathlib.Core.List.{List, [], ◌∷◌, ◌++◌, map}
use lib.Dec.{T}
use lib.IntN.{ℤ, pos, negsuc}
use lib.Ieee.{Float, binary32, of_bits, of_int, add, sub, mul, div, neg, lt, eq}
use Rattle.numbers.specs.Sum.{sum_to}
use Rattle.numbers.specs.Firsts.{firsts}
use Rattle.numbers.specs.Choice.{larger, smaller, size_of}
use Rattle.numbers.specs.Below.{any_below, all_below}
use Rattle.shaping.specs.Taps.{taps}
use Rattle.shaping.specs.Sum.{dot}
use Rattle.protocol.specs.Bursts.{signs_of}
use Rattle.protocol.specs.declared.Kind.TheVariants.{Lsf, Stream}
use Rattle.protocol.specs.declared.SyncBurst.TheVariants.{Frame}
use Rattle.decode.specs.Correlator.{zero_unsigned, highest, lowest, gain_of, shift_of, symbol_of, distance_of, summed, diff_of, correlation, matches}
use Rattle.search.specs.Search.{same_kind}
use Rattle.demodulator_run.specs.Filter.{sample_no_lem, filtered}
use Rattle.demodulator_examples.proofs.Table.{all_sixteen, listed, matched, silent}
use Rattle.demodulator_examples.proofs.Fits.{Fits, tested, fits}
use Rattle.demodulator_examples.proofs.Sketch.{Sketch}

-- the first 70; two more follow
unfoldable pub front : List ℤ
front =
    pos 5214 ∷ negsuc 9568 ∷ pos 3867 ∷ pos 970 ∷ negsuc 341 ∷ negsuc 487 ∷ pos 37 ∷ pos 763 ∷ pos 1319 ∷ pos 1485 ∷ pos 1202 ∷ negsuc 8629 ∷ negsuc 18 ∷ pos 1097 ∷ pos 1779 ∷ pos 1958 ∷ pos 1672
    ∷ pos 1041 ∷ pos 243 ∷ negsuc 534 ∷ negsuc 1127 ∷ negsuc 6484 ∷ negsuc 101 ∷ pos 883 ∷ pos 1591 ∷ pos 1903 ∷ pos 1788 ∷ pos 1305 ∷ pos 584 ∷ negsuc 208 ∷ negsuc 902 ∷ negsuc 3232 ∷ negsuc 769
    ∷ negsuc 441 ∷ negsuc 56 ∷ pos 304 ∷ pos 566 ∷ pos 675 ∷ pos 609 ∷ pos 381 ∷ pos 36 ∷ pos 861 ∷ negsuc 1180 ∷ negsuc 1564 ∷ negsuc 1671 ∷ negsuc 1495 ∷ negsuc 1081 ∷ negsuc 518 ∷ pos 84 ∷ pos 616
    ∷ pos 986 ∷ pos 2828 ∷ pos 516 ∷ pos 73 ∷ negsuc 325 ∷ negsuc 610 ∷ negsuc 741 ∷ negsuc 711 ∷ negsuc 543 ∷ negsuc 286 ∷ pos 0 ∷ pos 1247 ∷ pos 179 ∷ pos 119 ∷ pos 43 ∷ negsuc 32 ∷ negsuc 93
    ∷ negsuc 128 ∷ negsuc 134 ∷ negsuc 112 ∷ []

-- F(0) to F(73)
unfoldable pub table : List Float
table = map (of_bits binary32) (
    0x0000_0000 ∷ 0xc185_4a7a ∷ 0x4174_cdde ∷ 0x40b2_04b4 ∷ 0x4012_0fbf ∷ 0x400e_0b67 ∷ 0x400a_feee ∷ 0x3bcc_c4e0 ∷ 0xc097_da2a ∷ 0xc12d_6b22 ∷ 0xc17d_590c ∷ 0xc187_fd8e ∷ 0x4188_09fd
    ∷ 0x41c4_c883 ∷ 0x41c0_50e4 ∷ 0x417c_db6d ∷ 0x4019_3ef8 ∷ 0xc145_7102 ∷ 0xc1c1_98b5 ∷ 0xc1ed_d3c3 ∷ 0xc1d8_dc14 ∷ 0xc185_58cf ∷ 0x4174_b408 ∷ 0x41d7_a367 ∷ 0x41ef_51a9 ∷ 0x41bb_787d
    ∷ 0x4115_9234 ∷ 0xc105_11fb ∷ 0xc1c2_3d60 ∷ 0xc205_0ba0 ∷ 0xc1fa_33de ∷ 0xc185_7222 ∷ 0x4174_3d29 ∷ 0x4236_f050 ∷ 0x4297_bd92 ∷ 0x42c8_9a4f ∷ 0x42e4_f87a ∷ 0x42e7_4a13 ∷ 0x42ce_c0c2
    ∷ 0x429f_90ad ∷ 0x4244_6709 ∷ 0x4187_0f21 ∷ 0xc170_0778 ∷ 0xc200_b2ee ∷ 0xc211_4e36 ∷ 0xc1e0_c4e2 ∷ 0xc12e_5166 ∷ 0x411d_4343 ∷ 0x41de_513e ∷ 0x4214_e3ad ∷ 0x4208_b08b ∷ 0x418b_2e66
    ∷ 0xc185_6e69 ∷ 0xc249_f6d4 ∷ 0xc2a7_1db2 ∷ 0xc2dc_287b ∷ 0xc2fa_a44c ∷ 0xc2fc_ff24 ∷ 0xc2e2_81d9 ∷ 0xc2af_50fe ∷ 0xc256_e48d ∷ 0xc184_89a1 ∷ 0x4177_3dc0 ∷ 0x4235_cf5d ∷ 0x4287_30ca
    ∷ 0x42a1_00ae ∷ 0x42a8_c364 ∷ 0x42a1_480b ∷ 0x428e_57ae ∷ 0x4266_038e ∷ 0x421f_f4d6 ∷ 0x4189_e8b1 ∷ 0xc16b_ae67 ∷ 0xc26c_61f2 ∷ [])

pub tabled : firsts (filtered taps 10 (front ++ (negsuc 69 ∷ pos 207 ∷ pos 0 ∷ []))) 74 ≡ table
unfolding front table firsts filtered sample_no_lem dot sum_to taps of_bits of_int add mul
tabled = refl

passes : T (tested 10 70 front (negsuc 69) (pos 207) table Stream (same_kind Lsf))
unfolding tested front all_sixteen all_below matched table of_bits matches correlation diff_of summed sum_to distance_of symbol_of shift_of gain_of highest lowest zero_unsigned larger smaller size_of add sub mul div lt eq neg of_int signs_of any_below
passes = tt

pub facts : Fits 10 70 front (negsuc 69) (pos 207) table Stream (same_kind Lsf)
facts = fits 10 70 front (negsuc 69) (pos 207) table Stream (same_kind Lsf) passes

pub over : T (silent 10 table 73)
unfolding matched table of_bits matches correlation diff_of summed sum_to distance_of symbol_of shift_of gain_of highest lowest zero_unsigned larger smaller size_of add sub mul div lt eq neg of_int signs_of any_below
over = tt

-- the second diff is above the first
pub diffs : lt (correlation (Frame Stream) (listed 10 table 71)).diff (correlation (Frame Lsf) (listed 10 table 72)).diff ≡ true
unfolding table of_bits matches correlation diff_of summed sum_to distance_of symbol_of shift_of gain_of highest lowest zero_unsigned larger smaller size_of add sub mul div lt eq neg of_int signs_of any_below
diffs = refl

abbrev pub earlier_larger : Sketch
earlier_larger = record {
  front = front;
  x = negsuc 69;
  y = pos 207;
  table = table;
  kind = Stream;
  hit = same_kind Lsf;
  tabled = tabled;
  facts = facts;
  lost = refl;
  over = over;
}

-- A Packet burst, and on the next sample a Stream burst, an earlier-listed kind, with a smaller diff. Assumes nothing.
use mathlib.Core.Path.{◌≡◌, refl}
use mathlib.Core.Bool.{false}
use mathlib.Core.List.{List, [], ◌∷◌, ◌++◌, map}
use lib.Dec.{T}
use lib.IntN.{ℤ, pos, negsuc}
use lib.Ieee.{Float, binary32, of_bits, of_int, add, sub, mul, div, neg, lt, eq}
use Rattle.numbers.specs.Sum.{sum_to}
use Rattle.numbers.specs.Firsts.{firsts}
use Rattle.numbers.specs.Choice.{larger, smaller, size_of}
use Rattle.numbers.specs.Below.{any_below, all_below}
use Rattle.shaping.specs.Taps.{taps}
use Rattle.shaping.specs.Sum.{dot}
use Rattle.protocol.specs.Bursts.{signs_of}
use Rattle.protocol.specs.declared.Kind.TheVariants.{Stream, Packet}
use Rattle.protocol.specs.declared.SyncBurst.TheVariants.{Frame}
use Rattle.decode.specs.Correlator.{zero_unsigned, highest, lowest, gain_of, shift_of, symbol_of, distance_of, summed, diff_of, correlation, matches}
use Rattle.search.specs.Search.{same_kind}
use Rattle.demodulator_run.specs.Filter.{sample_no_lem, filtered}
use Rattle.demodulator_examples.proofs.Table.{all_sixteen, listed, matched}
use Rattle.demodulator_examples.proofs.Fits.{Fits, tested, fits}

-- the first 70; two more follow
unfoldable pub front : List ℤ
front =
    negsuc 4787 ∷ pos 9604 ∷ negsuc 4577 ∷ negsuc 319 ∷ pos 269 ∷ negsuc 503 ∷ negsuc 1109 ∷ negsuc 841 ∷ pos 312 ∷ pos 1906 ∷ pos 3305 ∷ negsuc 495 ∷ negsuc 2685 ∷ negsuc 1086 ∷ pos 64 ∷ pos 549
    ∷ pos 384 ∷ negsuc 231 ∷ negsuc 1001 ∷ negsuc 1615 ∷ negsuc 1839 ∷ pos 7941 ∷ pos 1236 ∷ negsuc 517 ∷ negsuc 1747 ∷ negsuc 2259 ∷ negsuc 2040 ∷ negsuc 1244 ∷ negsuc 135 ∷ pos 984 ∷ pos 1837
    ∷ pos 3429 ∷ negsuc 663 ∷ negsuc 556 ∷ negsuc 400 ∷ negsuc 230 ∷ negsuc 67 ∷ pos 81 ∷ pos 219 ∷ pos 355 ∷ pos 492 ∷ negsuc 2621 ∷ pos 1581 ∷ pos 2097 ∷ pos 2250 ∷ pos 2028 ∷ pos 1487 ∷ pos 740
    ∷ negsuc 69 ∷ negsuc 794 ∷ negsuc 1309 ∷ negsuc 4102 ∷ negsuc 711 ∷ negsuc 68 ∷ pos 504 ∷ pos 907 ∷ pos 1083 ∷ pos 1026 ∷ pos 773 ∷ pos 394 ∷ negsuc 21 ∷ negsuc 1803 ∷ negsuc 259 ∷ negsuc 173
    ∷ negsuc 62 ∷ pos 48 ∷ pos 137 ∷ pos 188 ∷ pos 196 ∷ pos 164 ∷ []

abbrev pub x : ℤ
x = pos 102

abbrev pub y : ℤ
y = negsuc 300

-- F(0) to F(72)
unfoldable pub table : List Float
table = map (of_bits binary32) (
    0x0000_0000 ∷ 0x4174_cd20 ∷ 0xc185_4858 ∷ 0xc087_0cb2 ∷ 0xc01f_b7e2 ∷ 0xbfee_a76e ∷ 0x3fd9_d5e8 ∷ 0x40e9_2be5 ∷ 0x4131_e119 ∷ 0x4113_d4b4 ∷ 0xbe09_9920 ∷ 0xc174_ce70 ∷ 0xc188_0138
    ∷ 0xc100_be9f ∷ 0xbf93_d22a ∷ 0x4047_bc18 ∷ 0x40b1_a906 ∷ 0x40ef_5a33 ∷ 0x411f_8ee7 ∷ 0x4153_0ed3 ∷ 0x4181_37e1 ∷ 0x4188_0e12 ∷ 0xc185_3b36 ∷ 0xc1eb_c9bc ∷ 0xc1f9_d569 ∷ 0xc1ae_4c02
    ∷ 0xc088_5cff ∷ 0x417d_f26c ∷ 0x4201_0446 ∷ 0x421d_4216 ∷ 0x4206_e2ad ∷ 0x4174_d848 ∷ 0xc185_3972 ∷ 0xc21e_8ad1 ∷ 0xc277_2638 ∷ 0xc29f_5532 ∷ 0xc2b4_7bcb ∷ 0xc2b7_0150 ∷ 0xc2a5_d7f2
    ∷ 0xc283_4caa ∷ 0xc229_9cc9 ∷ 0xc188_0c0f ∷ 0x4185_5fc3 ∷ 0x41f3_cd52 ∷ 0x4200_60ca ∷ 0x41b5_3ef6 ∷ 0x40ba_4806 ∷ 0xc151_3f4d ∷ 0xc1e2_738b ∷ 0xc20c_3a2a ∷ 0xc1f4_be95 ∷ 0xc16e_b7c0
    ∷ 0x418b_0176 ∷ 0x4227_7ffd ∷ 0x4274_dce7 ∷ 0x428e_ed07 ∷ 0x428d_78a0 ∷ 0x426e_678e ∷ 0x4223_9336 ∷ 0x4198_27f3 ∷ 0xbf8f_b564 ∷ 0xc175_a917 ∷ 0xc185_eb91 ∷ 0xc17e_43b2 ∷ 0xc129_81de
    ∷ 0xc082_75a7 ∷ 0x3de3_1cfa ∷ 0xbf2d_9314 ∷ 0xc0de_79d9 ∷ 0xc180_f495 ∷ 0xc1b0_6343 ∷ 0xc175_8aaa ∷ 0x4184_f03d ∷ [])

pub tabled : firsts (filtered taps 10 (front ++ (x ∷ y ∷ []))) 73 ≡ table
unfolding front table firsts filtered sample_no_lem dot sum_to taps of_bits of_int add mul
tabled = refl

passes : T (tested 10 70 front x y table Packet (same_kind Stream))
unfolding tested front all_sixteen all_below matched table of_bits matches correlation diff_of summed sum_to distance_of symbol_of shift_of gain_of highest lowest zero_unsigned larger smaller size_of add sub mul div lt eq neg of_int signs_of any_below
passes = tt

pub facts : Fits 10 70 front x y table Packet (same_kind Stream)
facts = fits 10 70 front x y table Packet (same_kind Stream) passes

-- the second diff is not above the first
pub diffs : lt (correlation (Frame Packet) (listed 10 table 71)).diff (correlation (Frame Stream) (listed 10 table 72)).diff ≡ false
unfolding table of_bits matches correlation diff_of summed sum_to distance_of symbol_of shift_of gain_of highest lowest zero_unsigned larger smaller size_of add sub mul div lt eq neg of_int signs_of any_below
diffs = refl

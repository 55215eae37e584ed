-- A Stream burst, and zeros: no kind matches after it. Assumes nothing.
use mathlib.Core.Path.{◌≡◌, refl}
use mathlib.Core.List.{List, [], ◌∷◌, ◌++◌, map}
use lib.Dec.{T}
use lib.IntN.{ℤ, pos, negsuc}
use lib.Ieee.{Float, binary32, of_bits, of_int, add, sub, mul, div, neg, lt, eq}
use Rattle.numbers.specs.Sum.{sum_to}
use Rattle.numbers.specs.Firsts.{firsts}
use Rattle.numbers.specs.Choice.{larger, smaller, size_of}
use Rattle.numbers.specs.Below.{any_below, all_below}
use Rattle.shaping.specs.Taps.{taps}
use Rattle.shaping.specs.Sum.{dot}
use Rattle.protocol.specs.Bursts.{signs_of}
use Rattle.protocol.specs.declared.Kind.TheVariants.{Stream}
use Rattle.decode.specs.Correlator.{zero_unsigned, highest, lowest, gain_of, shift_of, symbol_of, distance_of, summed, diff_of, correlation, matches}
use Rattle.demodulator_run.specs.Filter.{sample_no_lem, filtered}
use Rattle.demodulator_examples.proofs.Steps.{none}
use Rattle.demodulator_examples.proofs.Table.{all_sixteen, matched, silent}
use Rattle.demodulator_examples.proofs.Fits.{Fits, tested, fits}
use Rattle.demodulator_examples.proofs.Sketch.{Sketch}

-- the first 70; two more follow
unfoldable pub front : List ℤ
front =
    pos 5320 ∷ negsuc 4456 ∷ negsuc 1880 ∷ negsuc 398 ∷ pos 315 ∷ pos 544 ∷ pos 503 ∷ pos 346 ∷ pos 169 ∷ pos 25 ∷ negsuc 60 ∷ negsuc 2475 ∷ negsuc 1613 ∷ negsuc 468 ∷ pos 696 ∷ pos 1641 ∷ pos 2192
    ∷ pos 2267 ∷ pos 1883 ∷ pos 1146 ∷ pos 221 ∷ negsuc 1789 ∷ negsuc 2159 ∷ negsuc 2117 ∷ negsuc 1714 ∷ negsuc 1062 ∷ negsuc 311 ∷ pos 390 ∷ pos 915 ∷ pos 1187 ∷ pos 1184 ∷ negsuc 18 ∷ negsuc 92
    ∷ negsuc 131 ∷ negsuc 132 ∷ negsuc 101 ∷ negsuc 47 ∷ pos 13 ∷ pos 68 ∷ pos 104 ∷ pos 116 ∷ negsuc 3 ∷ pos 0 ∷ pos 4 ∷ pos 5 ∷ pos 5 ∷ pos 3 ∷ pos 1 ∷ negsuc 1 ∷ negsuc 3 ∷ negsuc 5 ∷ pos 1 ∷ pos 0
    ∷ negsuc 0 ∷ negsuc 1 ∷ negsuc 1 ∷ negsuc 1 ∷ negsuc 0 ∷ pos 0 ∷ pos 0 ∷ pos 1 ∷ pos 1 ∷ pos 1 ∷ pos 1 ∷ pos 1 ∷ pos 1 ∷ pos 0 ∷ pos 0 ∷ pos 0 ∷ negsuc 0 ∷ []

-- F(0) to F(73)
unfoldable pub table : List Float
table = map (of_bits binary32) (
    0x0000_0000 ∷ 0xc188_002e ∷ 0xbfac_41a8 ∷ 0x410b_f196 ∷ 0x4158_a8ed ∷ 0x415a_11a6 ∷ 0x411e_b5d8 ∷ 0x4069_4a57 ∷ 0xc06d_7594 ∷ 0xc128_c5b8 ∷ 0xc175_d378 ∷ 0xc187_fe87 ∷ 0xc0e7_2dba
    ∷ 0x4039_09d0 ∷ 0x4122_8848 ∷ 0x4147_c5b8 ∷ 0x4116_65a2 ∷ 0x4006_cec6 ∷ 0xc0dd_1b56 ∷ 0xc16a_3fa5 ∷ 0xc193_cae1 ∷ 0xc188_0f38 ∷ 0xc0e2_1c74 ∷ 0x408b_f55c ∷ 0x4151_6568 ∷ 0x4176_9d86
    ∷ 0x4118_8557 ∷ 0xc065_a803 ∷ 0xc19f_46fb ∷ 0xc203_2af9 ∷ 0xc209_288c ∷ 0xc188_1153 ∷ 0x41d6_d19d ∷ 0x42ba_2eaf ∷ 0x432f_3521 ∷ 0x4382_bc4e ∷ 0x43a8_0e34 ∷ 0x43be_bc7d ∷ 0x43be_75f0
    ∷ 0x43a1_01d0 ∷ 0x4347_7409 ∷ 0x4189_cdfd ∷ 0xc352_285a ∷ 0xc3e5_c217 ∷ 0xc42f_0635 ∷ 0xc460_679b ∷ 0xc47e_bf99 ∷ 0xc481_abc2 ∷ 0xc46a_2f9b ∷ 0xc432_da88 ∷ 0xc3c1_ca29 ∷ 0x4189_f3d8
    ∷ 0x43e4_85b7 ∷ 0x445c_8f08 ∷ 0x449b_3954 ∷ 0x44ba_40c1 ∷ 0x44c7_1c72 ∷ 0x44bf_9e89 ∷ 0x44a4_06d8 ∷ 0x446e_152d ∷ 0x43f6_176a ∷ 0xc187_c7b4 ∷ 0xc401_81fb ∷ 0xc46e_d965 ∷ 0xc4a0_4260
    ∷ 0xc4b7_30fe ∷ 0xc4ba_6fe2 ∷ 0xc4aa_a69f ∷ 0xc48a_bf97 ∷ 0xc43e_daca ∷ 0xc3b9_de5a ∷ 0x4185_5626 ∷ 0x43b2_db18 ∷ 0x441a_4715 ∷ [])

pub tabled : firsts (filtered taps 10 (front ++ (negsuc 0 ∷ pos 0 ∷ pos 0 ∷ []))) 74 ≡ table
unfolding front table firsts filtered sample_no_lem dot sum_to taps of_bits of_int add mul
tabled = refl

passes : T (tested 10 70 front (negsuc 0) (pos 0) table Stream none)
unfolding tested front all_sixteen all_below matched table of_bits matches correlation diff_of summed sum_to distance_of symbol_of shift_of gain_of highest lowest zero_unsigned larger smaller size_of add sub mul div lt eq neg of_int signs_of any_below
passes = tt

pub facts : Fits 10 70 front (negsuc 0) (pos 0) table Stream none
facts = fits 10 70 front (negsuc 0) (pos 0) table Stream none passes

pub over : T (silent 10 table 73)
unfolding matched table of_bits matches correlation diff_of summed sum_to distance_of symbol_of shift_of gain_of highest lowest zero_unsigned larger smaller size_of add sub mul div lt eq neg of_int signs_of any_below
over = tt

abbrev pub one_burst : Sketch
one_burst = record {
  front = front;
  x = negsuc 0;
  y = pos 0;
  table = table;
  kind = Stream;
  hit = none;
  tabled = tabled;
  facts = facts;
  lost = refl;
  over = over;
}

-- A Stream burst at 24 kHz, and zeros: the kind matches at sample 36, the first at which one can, and no kind at 37. Assumes nothing.
use mathlib.Core.Path.{◌≡◌, refl, sym, ap, subst, ◌∙◌}
use mathlib.Core.List.{List, [], ◌∷◌, ◌++◌, map, append_assoc}
use Prim.Native.Nat.{ℕ, ◌+◌, ◌^◌, ◌≤◌}
use native.Mathlib.Omega.{arith}
use lib.Dec.{T, lit≤}
use lib.IntN.{ℤ, pos, negsuc}
use lib.ListN.{length, length-append}
use lib.Ieee.{Float, binary32, of_bits, of_int, add, sub, mul, div, neg, lt, eq}
use Rattle.numbers.specs.Sum.{sum_to}
use Rattle.numbers.specs.Firsts.{firsts}
use Rattle.numbers.specs.Choice.{larger, smaller, size_of}
use Rattle.numbers.specs.Below.{any_below, all_below}
use Rattle.machine.specs.Runs.{Each}
use Rattle.shaping.specs.Taps.{taps, even_taps}
use Rattle.shaping.specs.Rate.{at24}
use Rattle.shaping.proofs.RateFacts.{facts24}
use Rattle.shaping.specs.Sum.{dot}
use Rattle.protocol.specs.Bursts.{signs_of}
use Rattle.protocol.specs.declared.Kind.TheVariants.{Stream}
use Rattle.decode.specs.Correlator.{zero_unsigned, highest, lowest, gain_of, shift_of, symbol_of, distance_of, summed, diff_of, correlation, matches}
use Rattle.search.specs.Search.{same_kind}
use Rattle.demodulator_run.specs.Filter.{sample_no_lem, filtered}
use Rattle.demodulator_run.specs.Rules.{Single}
use Rattle.demodulator_run.specs.Demands.{ear_of, Started}
use Rattle.demodulator_run.specs.Stretch.{Sixteen}
use Rattle.demodulator_run.specs.Run.{Callable}
use Rattle.demodulator_run.proofs.DemandAt.{log_at, fed_at}
use Rattle.demodulator_run.proofs.Sixteen.{sixteen_append}
use Rattle.demodulator_examples.proofs.Fed.{fed, fed_sampled}
use Rattle.demodulator_examples.proofs.Steps.{Hits, none}
use Rattle.demodulator_examples.proofs.Table.{pause, pause_length, all_sixteen, sixteen_test, sixteen_pause, matched, silent, hits_matched, hits_listed, silent_listed}
use Rattle.demodulator_examples.proofs.Take.{fed_all_lem, takes}

-- the first 35; one more follows. The smallest samples, in the sum of their squares, whose filtered values at 1, 6, .. 36 are the
-- signs of the burst times 17, rounded
unfoldable pub front : List ℤ
front =
    pos 5320 ∷ negsuc 8105 ∷ pos 1371 ∷ pos 2244 ∷ negsuc 256 ∷ negsuc 2037 ∷ negsuc 3665 ∷ pos 1636 ∷ pos 5366 ∷ pos 4779 ∷ pos 638 ∷ negsuc 6023
    ∷ negsuc 4649 ∷ negsuc 907 ∷ pos 2253 ∷ pos 2892 ∷ negsuc 380 ∷ negsuc 480 ∷ negsuc 197 ∷ pos 181 ∷ pos 354 ∷ pos 21 ∷ pos 38 ∷ pos 22
    ∷ negsuc 7 ∷ negsuc 25 ∷ negsuc 6 ∷ negsuc 7 ∷ negsuc 2 ∷ pos 3 ∷ pos 5 ∷ pos 1 ∷ pos 1 ∷ pos 0 ∷ pos 0 ∷ []

abbrev burst : List ℤ
burst = front ++ (pos 0 ∷ pos 0 ∷ [])

-- F(0) to F(37)
unfoldable pub table : List Float
table = map (of_bits binary32) (
    0x0000_0000 ∷ 0xc188_002e ∷ 0x4179_43d1 ∷ 0x419c_a110 ∷ 0x403d_844e ∷ 0xc165_8106 ∷ 0xc187_f88a ∷ 0x4010_2204 ∷ 0x4134_a228 ∷ 0x3e41_3080 ∷ 0xc183_769e ∷ 0xc187_f55e ∷ 0x40f8_de34
    ∷ 0x4174_0871 ∷ 0xc165_de6d ∷ 0xc245_ec89 ∷ 0xc188_5858 ∷ 0x430c_fe3e ∷ 0x43ba_0f49 ∷ 0x4404_7808 ∷ 0x43db_b205 ∷ 0x4189_e125 ∷ 0xc41e_0877 ∷ 0xc498_cea5 ∷ 0xc4af_c42f ∷ 0xc472_1d3c
    ∷ 0x418a_0bda ∷ 0x4492_f6a3 ∷ 0x44f8_5c98 ∷ 0x44ff_6a9c ∷ 0x449e_cd83 ∷ 0xc188_573c ∷ 0xc49d_b094 ∷ 0xc4f2_2e45 ∷ 0xc4e1_b6dd ∷ 0xc47d_0070 ∷ 0x4185_e476 ∷ 0x444a_6d1b ∷ [])

tabled : firsts (filtered even_taps 5 burst) 38 ≡ table
unfolding front table firsts filtered sample_no_lem dot sum_to even_taps taps of_bits of_int add mul
tabled = refl

small : T (all_sixteen burst)
unfolding front all_sixteen
small = tt

quiet : T (all_below 36 (silent 5 table))
unfolding all_below matched table of_bits matches correlation diff_of summed sum_to distance_of symbol_of shift_of gain_of highest lowest zero_unsigned larger smaller size_of add sub mul div lt eq neg of_int signs_of any_below
quiet = tt

first : T (matched 5 table 36 (same_kind Stream))
unfolding matched table of_bits matches correlation diff_of summed sum_to distance_of symbol_of shift_of gain_of highest lowest zero_unsigned larger smaller size_of add sub mul div lt eq neg of_int signs_of any_below
first = tt

over : T (silent 5 table 37)
unfolding matched table of_bits matches correlation diff_of summed sum_to distance_of symbol_of shift_of gain_of highest lowest zero_unsigned larger smaller size_of add sub mul div lt eq neg of_int signs_of any_below
over = tt

-- ---- the burst and 940 zeros, and the calls that feed them
abbrev pub samples : List ℤ
samples = front ++ (pos 0 ∷ pause 940)

abbrev pub calls24 : List Single
calls24 = fed samples

first_zero : pause 940 ≡ pos 0 ∷ pause 939
unfolding pause
first_zero = refl

part : samples ≡ burst ++ pause 939
part = ap (λ (l : List ℤ). front ++ (pos 0 ∷ l)) first_zero ∙ sym (append_assoc front (pos 0 ∷ pos 0 ∷ []) (pause 939))

pub sixteen : Sixteen samples
sixteen = subst Sixteen (sym part) (sixteen_append burst (pause 939) (sixteen_test burst small) (sixteen_pause 939))

pub sampled24 : Each Callable calls24
sampled24 = fed_sampled samples sixteen

pub long : length front ≡ 35
unfolding front
long = refl

burst_long : length burst ≡ 37
burst_long = length-append front (pos 0 ∷ pos 0 ∷ []) ∙ (let a = long in omega arith)

number : length samples ≡ 976
number = length-append front (pos 0 ∷ pause 940) ∙ (let a = long in let b = pause_length 940 in omega arith)

pub few : length samples ≤ 2 ^ 63
few = let e = number in omega arith

pub fed24 : fed_at at24 calls24 ≡ 976
fed24 = fed_all_lem at24 facts24 samples sixteen few ∙ number

-- ---- the take
pub none_before : (n : ℕ) → n ≤ 35 → Hits (ear_of even_taps 5 samples n) none
none_before = silent_listed at24 facts24 samples burst (pause 939) part 37 burst_long table tabled 35 (lit≤ tt) quiet

pub at_36 : Hits (ear_of even_taps 5 samples 36) (same_kind Stream)
at_36 = hits_listed at24 facts24 samples burst (pause 939) part 37 burst_long table tabled 36 (lit≤ tt) (same_kind Stream) (hits_matched 5 table 36 (same_kind Stream) first)

pub at_37 : Hits (ear_of even_taps 5 samples 37) none
at_37 = hits_listed at24 facts24 samples burst (pause 939) part 37 burst_long table tabled 37 (lit≤ tt) none (hits_matched 5 table 37 none over)

pub started24 : Started (log_at at24 calls24) 36
started24 = (Stream, takes at24 facts24 35 front (pos 0) (pause 940) long sixteen few none_before Stream at_36)

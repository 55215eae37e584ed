-- Worked examples of the rules, computed: P1, the first sample, each refusal, the carrier and its timer, a wait that is set, a tie and an age. Assumes nothing.
use Rattle.std.specs.Prelude.{Option, Some, None}
use Rattle.search.specs.declared.Waiting.{Waiting}
use mathlib.Core.Path.{◌≡◌, refl, sym, ◌∙◌}
use mathlib.Core.Bool.{Bool, true, false, cond}
use mathlib.Core.List.{List, [], ◌∷◌}
use Prim.Native.Nat.{ℕ, ◌%◌, ◌^◌}
use lib.Dec.{eqb}
use lib.IntN.{ℤ, pos}
use lib.ListN.{get_or, replicate}
use lib.Ieee.{Float, binary32, of_bits, of_int, add, sub, mul, div, neg, lt, eq}
use Rattle.numbers.specs.Sum.{nought, sum_to}
use Rattle.numbers.specs.Choice.{larger, smaller, size_of}
use Rattle.numbers.specs.Below.{any_below}
use Rattle.numbers.specs.Firsts.{firsts}
use Rattle.shaping.specs.Taps.{taps, even_taps}
use Rattle.shaping.specs.Sum.{dot}
use Rattle.shaping.proofs.Impulse.{middle_tap}
use Rattle.protocol.specs.Bursts.{signs_of}
use Rattle.protocol.specs.declared.Kind.TheVariants.{Lsf, Stream}
use Rattle.protocol.specs.declared.SyncBurst.TheVariants.{Preamble}
use Rattle.protocol.specs.Refusals.{bare}
use Rattle.decode.specs.declared.Correlation.{Correlation}
use Rattle.decode.specs.Correlator.{zero_unsigned, highest, lowest, gain_of, shift_of, symbol_of, distance_of, summed, diff_of, correlation, matches}
use Rattle.search.specs.declared.Candidate.TheVariants.{Nothing}
use Rattle.search.specs.declared.Control.{Control}
use Rattle.search.specs.declared.Reply.TheVariants.{Accepted}
use Rattle.search.specs.TakenBurst.{TakenBurst, held_as, taken}
use Rattle.search.specs.Search.{carried, marked, matched, missed, tried, passed, searched}
use Rattle.search.specs.Turn.{cleared, waited_turn, sampled}
use Rattle.demodulator.specs.Calls.{refusal, nothing, done, carrier}
use Rattle.demodulator_laws.proofs.ExampleBurst.{burst_at}
use Rattle.demodulator_run.specs.Filter.{sample_no_lem, filtered}
use Rattle.demodulator_run.specs.Rules.{sample, reply, query, History, After, start, settled, given, answered, single}

-- ---- P1: "sample 1, then 40 zeros: F(41) = tap 40, 0.35943073"
abbrev impulse : List ℤ
impulse = pos 1 ∷ replicate 40 (pos 0)

pub p1 : filtered taps 10 impulse 41 ≡ of_bits binary32 0x3eb8_074e
unfolding filtered sample_no_lem dot sum_to taps of_bits of_int add mul
p1 = refl

pub p1_tap : filtered taps 10 impulse 41 ≡ get_or taps 40 nought
p1_tap = p1 ∙ sym middle_tap

-- ---- refusals
-- "reply given while none is owed"
refuses_3 : (single taps 10 start (reply Accepted)).said.answer ≡ refusal (bare 3)
unfolding single answered
refuses_3 = refl

-- "room for symbols below 192"
refuses_4 : (single taps 10 start (sample (pos 1) (replicate 191 nought))).said.answer ≡ refusal (bare 4)
unfolding single given
refuses_4 = refl

-- "sample given while a reply is owed": the smallest number of two that apply
owed : History
owed = record { samples = []; control = record { candidate = Nothing; wait = None; dcd = Some 5; owed = true; sample = 0 } }

refuses_2 : (single taps 10 owed (sample (pos 1) [])).said.answer ≡ refusal (bare 2)
unfolding single given owed
refuses_2 = refl

-- "sample given at count 2^63"
last : History
last = record { samples = []; control = record { candidate = Nothing; wait = None; dcd = None; owed = false; sample = 2 ^ 63 } }

refuses_5 : (single taps 10 last (sample (pos 1) (replicate 192 nought))).said.answer ≡ refusal (bare 5)
unfolding single given last
refuses_5 = refl

-- ---- "Carrier detect is yes exactly while the timer is held", while a reply is owed too
carrier_no : (single taps 10 start query).said.answer ≡ carrier false
unfolding single
carrier_no = refl

carrier_yes : (single taps 10 owed query).said.answer ≡ carrier true
unfolding single owed
carrier_yes = refl

accepts : (single taps 10 owed (reply Accepted)).said.answer ≡ done
unfolding single answered owed
accepts = refl

-- ---- the first sample finds nothing, is counted, and writes no room
abbrev pub room : List Float
room = replicate 192 nought

abbrev pub unheard : After
unheard = record {
  said = record { answer = nothing; room = room };
  history = record { samples = pos 32767 ∷ []; control = record { candidate = Nothing; wait = None; dcd = None; owed = false; sample = 1 } };
}

pub first : single taps 10 start (sample (pos 32767) room) ≡ unheard
unfolding single given settled sampled waited_turn cleared searched passed tried carried missed matched marked matches correlation diff_of summed sum_to distance_of symbol_of shift_of gain_of highest lowest zero_unsigned larger smaller size_of add sub mul div lt eq neg of_int of_bits filtered sample_no_lem dot taps signs_of any_below
first = refl

pub first24 : single even_taps 5 start (sample (pos 32767) room) ≡ unheard
unfolding single given settled sampled waited_turn cleared searched passed tried carried missed matched marked matches correlation diff_of summed sum_to distance_of symbol_of shift_of gain_of highest lowest zero_unsigned larger smaller size_of add sub mul div lt eq neg of_int of_bits filtered sample_no_lem dot taps signs_of any_below even_taps firsts
first24 = refl

-- ---- "clear the carrier timer if the count is above its end"
at_its_end : cleared 240 (Some 240) ≡ Some 240
unfolding cleared
at_its_end = refl

past_its_end : cleared 241 (Some 240) ≡ None
unfolding cleared
past_its_end = refl

-- ---- a Stream candidate at age 3
abbrev zeros : Correlation
zeros = record { diff = nought; gain = nought; shift = nought }

abbrev third : TakenBurst
third = burst_at Stream 3 zeros

abbrev holding : TakenBurst → Option Waiting → Control
holding t wait = record { candidate = held_as t; wait = wait; dcd = None; owed = false; sample = 100 }

-- ---- "the wait becomes 1,840 - age and the timer's end count + 3,840": the age is kept
abbrev set : Bool → Option Waiting
set mark = Some (record { left = 1837; age = 3; replaced = mark })

fails : missed 10 Stream (Some third) (holding third None) ≡ record { candidate = held_as third; wait = set false; dcd = Some 3940; owed = false; sample = 100 }
unfolding missed
fails = refl

-- document 02 k): "the wait is 920 - age, the timer spans are 120 and 1,920"
fails24 : missed 5 Stream (Some third) (holding third None) ≡ record { candidate = held_as third; wait = Some (record { left = 917; age = 3; replaced = false }); dcd = Some 2020; owed = false; sample = 100 }
unfolding missed
fails24 = refl

-- a preamble of ±32 at sample 100: "a match sets the timer's end to count + 240"
abbrev alternating : ℕ → Float
alternating i = cond (eqb (i % 2) 0) (of_bits binary32 0x4200_0000) (of_bits binary32 0xc200_0000)

carried48 : (carried 10 Preamble alternating (holding third None)).dcd ≡ Some 340
unfolding carried matches correlation diff_of summed sum_to distance_of symbol_of shift_of gain_of highest lowest zero_unsigned larger smaller size_of add sub mul div lt eq neg of_int of_bits signs_of any_below
carried48 = refl

carried24 : (carried 5 Preamble alternating (holding third None)).dcd ≡ Some 220
unfolding carried matches correlation diff_of summed sum_to distance_of symbol_of shift_of gain_of highest lowest zero_unsigned larger smaller size_of add sub mul div lt eq neg of_int of_bits signs_of any_below
carried24 = refl

-- ---- "Any other match, ties included, takes a new candidate: kind, age 1"; at the count's sample
abbrev anew : TakenBurst
anew = taken Lsf zeros 100

tie_taken : matched (Some third) anew (holding third None) ≡ holding anew None
unfolding matched marked lt of_bits
tie_taken = refl

-- document 02 j): a wait that is held is marked by it
tie_marked : matched (Some third) anew (holding third (set false)) ≡ holding anew (set true)
unfolding matched marked lt of_bits
tie_marked = refl

-- ---- "A match whose diff is above the held candidate's adds one to its age, whatever its kind.": where it was taken and the wait stay
aged : matched (Some third) (taken Lsf (record { diff = of_bits binary32 0x3f80_0000; gain = nought; shift = nought }) 100) (holding third (set false)) ≡ holding (burst_at Stream 4 zeros) (set false)
unfolding matched lt of_bits
aged = refl

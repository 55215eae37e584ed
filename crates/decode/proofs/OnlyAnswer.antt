-- Each function's promise fixes its answer: what the paper writes of one answer it writes of no other. That there is one on every input is the function's own proof. Assumes nothing.
use Rattle.std.specs.Prelude.{Result, Ok, Err}
use Rattle.protocol.specs.declared.Refusal.{Refusal}
use mathlib.Core.Path.{◌≡◌, refl, sym, ap, ◌∙◌}
use mathlib.Core.Bool.{Bool}
use mathlib.Core.List.{List}
use Prim.Native.Nat.{ℕ}
use lib.Ieee.{Float}
use Rattle.numbers.proofs.Answer.{same_answer}
use Rattle.protocol.specs.declared.SyncBurst.{SyncBurst}
use Rattle.protocol.proofs.Numbers.{numbered, numbered_back}
use Rattle.decode.specs.declared.Correlation.{Correlation}
use Rattle.decode.specs.declared.Spread.{Spread}
use Rattle.decode.specs.Slicer.{DecodeSampleSays}
use Rattle.decode.specs.Correlator.{Paper, refusal, values, paper, InRangeSays, SyncBurstCorrelationSays}
use Rattle.decode.specs.Parts.{UnsignZerosSays, SpreadOfSays, CompareSays}

pub decode_sample_only_answer : (sample : Float) (r s : List ℕ) → DecodeSampleSays sample r → DecodeSampleSays sample s → r ≡ s
decode_sample_only_answer sample r s = same_answer

pub in_range_only_answer : (x : Float) (r s : Bool) → InRangeSays x r → InRangeSays x s → r ≡ s
in_range_only_answer x r s = same_answer

pub unsign_zeros_only_answer : (vs r s : List Float) → UnsignZerosSays vs r → UnsignZerosSays vs s → r ≡ s
unsign_zeros_only_answer vs r s = same_answer

pub spread_of_only_answer : (vs : List Float) (r s : Spread) → SpreadOfSays vs r → SpreadOfSays vs s → r ≡ s
spread_of_only_answer vs r s = same_answer

pub compare_only_answer : (burst : SyncBurst) (vs : List Float) (spread : Spread) (r s : Correlation) → CompareSays burst vs spread r → CompareSays burst vs spread s → r ≡ s
compare_only_answer burst vs spread r s = same_answer

-- the answer of which the paper writes this
unwritten : Paper → Result Correlation Refusal
unwritten (refusal n) = Err (numbered n)
unwritten (values diff gain shift) = Ok (record { diff = diff; gain = gain; shift = shift })

unwritten_back : (r : Result Correlation Refusal) → unwritten (paper r) ≡ r
unfolding unwritten
unwritten_back (Err why) = ap Err (numbered_back why)
unwritten_back (Ok c) = refl

pub paper_once : (r s : Result Correlation Refusal) → paper r ≡ paper s → r ≡ s
paper_once r s e = sym (unwritten_back r) ∙ ap unwritten e ∙ unwritten_back s

pub sync_burst_correlation_only_answer : (burst : SyncBurst) (vs : List Float) (r s : Result Correlation Refusal) → SyncBurstCorrelationSays burst vs r → SyncBurstCorrelationSays burst vs s → r ≡ s
sync_burst_correlation_only_answer burst vs r s p q = paper_once r s (same_answer p q)

-- Each promise of this crate leaves one answer. Assumes nothing.
use mathlib.Core.Path.{◌≡◌}
use mathlib.Core.List.{List}
use lib.Ieee.{Float}
use Rattle.numbers.proofs.Answer.{same_answer}
use Rattle.encode.specs.Frames.{GeneratePreambleSays, GenerateBertPreambleSays, GenerateEndOfTransmissionSays, GenerateEndingSays}

pub generate_preamble_only_answer : (r s : List Float) → GeneratePreambleSays r → GeneratePreambleSays s → r ≡ s
generate_preamble_only_answer r s p q = same_answer p q

pub generate_bert_preamble_only_answer : (r s : List Float) → GenerateBertPreambleSays r → GenerateBertPreambleSays s → r ≡ s
generate_bert_preamble_only_answer r s p q = same_answer p q

pub generate_end_of_transmission_only_answer : (r s : List Float) → GenerateEndOfTransmissionSays r → GenerateEndOfTransmissionSays s → r ≡ s
generate_end_of_transmission_only_answer r s p q = same_answer p q

pub generate_ending_only_answer : (r s : List Float) → GenerateEndingSays r → GenerateEndingSays s → r ≡ s
generate_ending_only_answer r s p q = same_answer p q

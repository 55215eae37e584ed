-- The promise of this crate leaves one answer. Assumes nothing.
use Rattle.std.specs.Prelude.{Result, Ok, Err}
use Rattle.protocol.specs.declared.Refusal.{Refusal}
use mathlib.Core.Path.{◌≡◌, refl, sym, ap, ◌∙◌}
use mathlib.Core.List.{List}
use lib.Ieee.{Float}
use Rattle.numbers.proofs.Answer.{same_answer}
use Rattle.protocol.proofs.Numbers.{numbered, numbered_back}
use Rattle.given_symbols.specs.declared.Traffic.{Traffic}
use Rattle.given_symbols.specs.Offender.{PaperVerdict, refused, fine, verdict_paper, JudgeFrameSays}

verdict_of : PaperVerdict → Result Unit Refusal
verdict_of (refused number) = Err (numbered number)
verdict_of fine = Ok tt

verdict_of_back : (r : Result Unit Refusal) → verdict_of (verdict_paper r) ≡ r
unfolding verdict_of
verdict_of_back (Err why) = ap Err (numbered_back why)
verdict_of_back (Ok _) = refl

pub judge_frame_only_answer : (traffic : Traffic) (symbols : List Float) (r s : Result Unit Refusal) → JudgeFrameSays traffic symbols r → JudgeFrameSays traffic symbols s → r ≡ s
judge_frame_only_answer traffic symbols r s p q = sym (verdict_of_back r) ∙ ap verdict_of (same_answer p q) ∙ verdict_of_back s

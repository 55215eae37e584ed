-- The promise leaves one answer. Assumes nothing.
use Rattle.std.specs.Prelude.{ℕ, Result, Ok, Err}
use Rattle.protocol.specs.declared.Refusal.{Refusal}
use mathlib.Core.Path.{◌≡◌, refl, sym, ap, ◌∙◌}
use mathlib.Core.List.{List}
use lib.Ieee.{Float}
use Rattle.numbers.proofs.Answer.{same_answer}
use Rattle.protocol.proofs.Numbers.{numbered, numbered_back}
use Rattle.bit_errors.specs.Errors.{Paper, refusal, errors, paper, BitErrorsSays}

-- the answer of which the paper writes this
unwritten : Paper → Result ℕ Refusal
unwritten (refusal why) = Err (numbered why)
unwritten (errors n) = Ok n

unwritten_back : (r : Result ℕ Refusal) → unwritten (paper r) ≡ r
unfolding unwritten
unwritten_back (Err why) = ap Err (numbered_back why)
unwritten_back (Ok n) = refl

pub bit_errors_only_answer : (sent received : List Float) (r s : Result ℕ Refusal) → BitErrorsSays sent received r → BitErrorsSays sent received s → r ≡ s
bit_errors_only_answer sent received r s p q = sym (unwritten_back r) ∙ ap unwritten (same_answer p q) ∙ unwritten_back s

-- Each promise fixes the answer and the report. That there is one on every input is the function's own proof. Assumes nothing.
use Rattle.std.specs.Prelude.{Result, Ok, Err}
use Rattle.protocol.specs.declared.Refusal.{Refusal}
use mathlib.Core.Path.{◌≡◌, refl, ap}
use mathlib.Core.List.{List}
use Prim.Native.Nat.{ℕ}
use lib.IntN.{ℤ}
use Rattle.numbers.proofs.Answer.{same_answer}
use Rattle.protocol.proofs.Numbers.{numbered, numbered_back}
use Rattle.demodulator.proofs.OnlyAnswer.{once}
use Rattle.figures.specs.declared.Report.{Report}
use Rattle.figures.specs.declared.AfterAdd.{AfterAdd}
use Rattle.figures.specs.Answers.{Paper, refusal, done, added_paper, Left, Says, NewSays, added, AddSays, merged, MergeSays}

added_as : Paper → Result Unit Refusal
added_as (refusal why) = Err (numbered why)
added_as done = Ok tt

added_back : (a : Result Unit Refusal) → added_as (added_paper a) ≡ a
unfolding added_as
added_back (Err why) = ap Err (numbered_back why)
added_back (Ok _) = refl

says_once : (l : Left) (r s : AfterAdd) → Says l r → Says l s → r ≡ s
says_once l r s p q =
    let answers = once added_paper added_as added_back r.answer s.answer (same_answer p.answers q.answers) in
    let leaves : r.report ≡ s.report = same_answer p.leaves q.leaves in
    λ i. record { answer = answers i; report = leaves i }

pub new_only_answer : (r s : Report) → NewSays r → NewSays s → r ≡ s
new_only_answer r s = same_answer

pub add_only_answer : (report : Report) (rate : ℕ) (xs : List ℤ) (r s : AfterAdd) → AddSays report rate xs r → AddSays report rate xs s
    → r ≡ s
add_only_answer report rate xs = says_once (added report rate xs)

pub merge_only_answer : (report other : Report) (r s : AfterAdd) → MergeSays report other r → MergeSays report other s → r ≡ s
merge_only_answer report other = says_once (merged report other)

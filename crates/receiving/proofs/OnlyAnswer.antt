-- Each promise fixes the answer, the record and the lent room. That there is one on every input is the function's own proof. Assumes nothing.
use Rattle.std.specs.Prelude.{Result, Ok, Err}
use Rattle.protocol.specs.declared.Refusal.{Refusal}
use mathlib.Core.Path.{◌≡◌, refl, ap}
use mathlib.Core.List.{List}
use Prim.Native.Nat.{ℕ}
use Rattle.numbers.proofs.Answer.{same_answer}
use Rattle.protocol.proofs.Numbers.{numbered, numbered_back}
use Rattle.demodulator.specs.Calls.{Paper, refusal, nothing, frame, done, carrier}
use Rattle.demodulator.proofs.OnlyAnswer.{once}
use Rattle.receiving.specs.declared.Receiving.{Receiving}
use Rattle.receiving.specs.declared.AfterBytes.{AfterBytes}
use Rattle.receiving.specs.Hear.{receipt_paper, NewSays, HearSays}

receipt_of : Paper → Result Unit Refusal
receipt_of (refusal number) = Err (numbered number)
receipt_of nothing = Ok tt
receipt_of (frame o) = Ok tt
receipt_of done = Ok tt
receipt_of (carrier there) = Ok tt

receipt_of_back : (r : Result Unit Refusal) → receipt_of (receipt_paper r) ≡ r
unfolding receipt_of
receipt_of_back (Err why) = ap Err (numbered_back why)
receipt_of_back (Ok _) = refl

pub new_only_answer : (r s : Receiving) → NewSays r → NewSays s → r ≡ s
new_only_answer r s = same_answer

pub hear_only_answer : (receiving : Receiving) (bytes lines : List ℕ) (r s : AfterBytes) (after other : List ℕ) → HearSays receiving bytes lines r after → HearSays receiving bytes lines s other → (r ≡ s) × (after ≡ other)
hear_only_answer receiving bytes lines r s after other p q =
    let answers = once receipt_paper receipt_of receipt_of_back r.answer s.answer (same_answer p.answers q.answers) in
    let consumes : r.consumed ≡ s.consumed = same_answer p.consumes q.consumes in
    let counts : r.written ≡ s.written = same_answer p.counts q.counts in
    let leaves : r.receiving ≡ s.receiving = same_answer p.leaves q.leaves in
    (λ i. record { answer = answers i; consumed = consumes i; written = counts i; receiving = leaves i }, same_answer p.writes q.writes)

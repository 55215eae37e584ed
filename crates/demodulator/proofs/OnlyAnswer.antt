-- Each call's promise fixes its answer, the record that it leaves and the room: what the paper writes of one answer it writes of no other. That there is one on every input is the
-- call's own proof. Assumes nothing.
use Rattle.std.specs.Prelude.{Bool, Option, Some, None, Result, Ok, Err}
use Rattle.demodulator.specs.declared.After.{After}
use Rattle.demodulator.specs.declared.Offer.{Offer}
use Rattle.protocol.specs.declared.Refusal.{Refusal}
use mathlib.Core.Path.{◌≡◌, refl, sym, ap, ◌∙◌}
use mathlib.Core.Bool.{false}
use mathlib.Core.List.{List}
use Prim.Native.Nat.{ℕ}
use lib.IntN.{ℤ}
use lib.Ieee.{Float}
use Rattle.numbers.proofs.Answer.{same_answer}
use Rattle.protocol.proofs.Numbers.{numbered, numbered_back}
use Rattle.search.specs.declared.Reply.{Reply}
use Rattle.demodulator.specs.declared.SoftDemodulator.{SoftDemodulator}
use Rattle.demodulator.specs.Calls.{Paper, refusal, nothing, frame, done, carrier, done_paper, heard_paper, carrier_paper, NewSays, DemodSays, ReplySays, DataCarrierDetectSays}

-- ---- the answer of which the paper writes this
pub once : {A B : Type 0} (paper : A → B) (unwritten : B → A) → ((r : A) → unwritten (paper r) ≡ r) → (r s : A) → paper r ≡ paper s → r ≡ s
once paper unwritten back r s e = sym (back r) ∙ ap unwritten e ∙ back s

pub done_as : Paper → Result Unit Refusal
done_as (refusal n) = Err (numbered n)
done_as nothing = Ok tt
done_as (frame o) = Ok tt
done_as done = Ok tt
done_as (carrier there) = Ok tt

pub done_back : (r : Result Unit Refusal) → done_as (done_paper r) ≡ r
unfolding done_as
done_back (Err why) = ap Err (numbered_back why)
done_back (Ok _) = refl

pub heard : Paper → Result (Option Offer) Refusal
heard (refusal n) = Err (numbered n)
heard nothing = Ok None
heard (frame o) = Ok (Some o)
heard done = Ok None
heard (carrier there) = Ok None

pub heard_back : (r : Result (Option Offer) Refusal) → heard (heard_paper r) ≡ r
unfolding heard
heard_back (Err why) = ap Err (numbered_back why)
heard_back (Ok None) = refl
heard_back (Ok (Some o)) = refl

detected : Paper → Result Bool Refusal
detected (refusal n) = Err (numbered n)
detected nothing = Ok false
detected (frame o) = Ok false
detected done = Ok false
detected (carrier there) = Ok there

detected_back : (r : Result Bool Refusal) → detected (carrier_paper r) ≡ r
unfolding detected
detected_back (Err why) = ap Err (numbered_back why)
detected_back (Ok there) = refl

-- ---- the calls
pub new_only_answer : (rate : ℕ) (r s : After Unit) → NewSays rate r → NewSays rate s → r ≡ s
new_only_answer rate r s p q =
    let answers = once done_paper done_as done_back r.answer s.answer (same_answer p.answers q.answers) in
    let leaves : r.demodulator ≡ s.demodulator = same_answer p.leaves q.leaves in
    λ i. record { answer = answers i; demodulator = leaves i }

pub demod_only_answer : (m : SoftDemodulator) (x : ℤ) (room : List Float) (r s : After (Option Offer)) (after other : List Float) → DemodSays m x room r after → DemodSays m x room s other → (r ≡ s) × (after ≡ other)
demod_only_answer m x room r s after other p q =
    let answers = once heard_paper heard heard_back r.answer s.answer (same_answer p.answers q.answers) in
    let leaves : r.demodulator ≡ s.demodulator = same_answer p.leaves q.leaves in
    (λ i. record { answer = answers i; demodulator = leaves i }, same_answer p.writes q.writes)

pub reply_only_answer : (m : SoftDemodulator) (reply : Reply) (r s : After Unit) → ReplySays m reply r → ReplySays m reply s → r ≡ s
reply_only_answer m reply r s p q =
    let answers = once done_paper done_as done_back r.answer s.answer (same_answer p.answers q.answers) in
    let leaves : r.demodulator ≡ s.demodulator = same_answer p.leaves q.leaves in
    λ i. record { answer = answers i; demodulator = leaves i }

pub data_carrier_detect_only_answer : (m : SoftDemodulator) (r s : Result Bool Refusal) → DataCarrierDetectSays m r → DataCarrierDetectSays m s → r ≡ s
data_carrier_detect_only_answer m r s p q = once carrier_paper detected detected_back r s (same_answer p q)

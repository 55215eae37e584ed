-- Each function's promise fixes its answer: what the paper writes of one it writes of no other. Assumes nothing.
use Rattle.std.specs.Prelude.{Option, Some, None, Result}
use Rattle.demodulator.specs.declared.Offer.{Offer}
use Rattle.protocol.specs.declared.Refusal.{Refusal}
use mathlib.Core.Path.{◌≡◌, refl}
use mathlib.Core.Bool.{Bool}
use mathlib.Core.List.{List, [], ◌∷◌}
use lib.IntN.{ℤ}
use Rattle.numbers.proofs.Answer.{same_answer}
use Rattle.search.specs.declared.Reply.{Reply}
use Rattle.demodulator.specs.declared.SoftDemodulator.{SoftDemodulator}
use Rattle.demodulator.specs.Calls.{heard_paper}
use Rattle.demodulator.proofs.OnlyAnswer.{once, heard, heard_back}
use Rattle.listening.specs.declared.Listened.{Listened}
use Rattle.listening.specs.Listen.{settled_paper, IsOfferedSays, ListenSays}

pub is_offered_only_answer : (answer : Result (Option Offer) Refusal) (r s : Bool) → IsOfferedSays answer r → IsOfferedSays answer s → r ≡ s
is_offered_only_answer answer r s = same_answer

-- ---- what was settled, by the replies on paper
settled_as : List Reply → Option Reply
settled_as [] = None
settled_as (reply ∷ more) = Some reply

settled_back : (s : Option Reply) → settled_as (settled_paper s) ≡ s
unfolding settled_as
settled_back None = refl
settled_back (Some reply) = refl

pub listen_only_answer : (m : SoftDemodulator) (xs : List ℤ) (r s : Listened) → ListenSays m xs r → ListenSays m xs s → r ≡ s
listen_only_answer m xs r s p q =
    let answers = once heard_paper heard heard_back r.answer s.answer (same_answer p.answers q.answers) in
    let settles = once settled_paper settled_as settled_back r.settled s.settled (same_answer p.settles q.settles) in
    let feeds : r.fed ≡ s.fed = same_answer p.feeds q.feeds in
    let shows : r.window ≡ s.window = same_answer p.shows q.shows in
    let times : r.timer ≡ s.timer = same_answer p.times q.times in
    let leaves : r.demodulator ≡ s.demodulator = same_answer p.leaves q.leaves in
    λ i. record { answer = answers i; settled = settles i; fed = feeds i; window = shows i; timer = times i; demodulator = leaves i }

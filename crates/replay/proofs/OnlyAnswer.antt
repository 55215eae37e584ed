-- The promise fixes the answer and the room: what the paper writes of one answer it writes of no other. Assumes nothing.
use Rattle.std.specs.Prelude.{Option, Some, None, Result, Ok, Err}
use Rattle.demodulator.specs.declared.Offer.{Offer}
use Rattle.protocol.specs.declared.Refusal.{Refusal}
use mathlib.Core.Path.{◌≡◌, refl, ap}
use mathlib.Core.List.{List}
use Prim.Native.Nat.{ℕ}
use lib.IntN.{ℤ}
use lib.Ieee.{Float}
use Rattle.numbers.proofs.Answer.{same_answer}
use Rattle.protocol.proofs.Numbers.{numbered, numbered_back}
use Rattle.demodulator.proofs.OnlyAnswer.{once}
use Rattle.replay.specs.Open.{Paper, refusal, no_offer, offered, opened_paper, OpenSays}

-- the answer of which the paper writes this
opened_as : Paper → Result (Option Offer) Refusal
opened_as (refusal n) = Err (numbered n)
opened_as no_offer = Ok None
opened_as (offered o) = Ok (Some o)

opened_back : (r : Result (Option Offer) Refusal) → opened_as (opened_paper r) ≡ r
unfolding opened_as
opened_back (Err why) = ap Err (numbered_back why)
opened_back (Ok None) = refl
opened_back (Ok (Some o)) = refl

pub open_only_answer : (rate : ℕ) (xs : List ℤ) (a : ℕ) (room : List Float) (r s : Result (Option Offer) Refusal) (after last : List Float)
    → OpenSays rate xs a room r after → OpenSays rate xs a room s last → (r ≡ s) × (after ≡ last)
open_only_answer rate xs a room r s after last p q =
    (once opened_paper opened_as opened_back r s (same_answer p.answers q.answers), same_answer p.writes q.writes)

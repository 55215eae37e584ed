-- The promise leaves one answer, and one content of the two rooms. That there is one on every input is the function's own proof. Assumes nothing.
use Rattle.std.specs.Prelude.{Result, Ok, Err}
use Rattle.protocol.specs.declared.Refusal.{Refusal}
use mathlib.Core.Path.{◌≡◌, refl, ap}
use mathlib.Core.Bool.{Bool}
use mathlib.Core.List.{List}
use Prim.Native.Nat.{ℕ}
use lib.IntN.{ℤ}
use lib.Ieee.{Float}
use Rattle.numbers.proofs.Answer.{same_answer}
use Rattle.protocol.proofs.Numbers.{numbered, numbered_back}
use Rattle.demodulator.proofs.OnlyAnswer.{once}
use Rattle.plain.specs.Listing.{Paper, refusal, listed, listing_paper, ListOffersSays}

-- ---- the answer of which the paper writes this
listing_as : Paper → Result ℕ Refusal
listing_as (refusal n) = Err (numbered n)
listing_as (listed n) = Ok n

listing_back : (r : Result ℕ Refusal) → listing_as (listing_paper r) ≡ r
unfolding listing_as
listing_back (Err why) = ap Err (numbered_back why)
listing_back (Ok n) = refl

pub list_offers_only_answer : (rate : ℕ) (xs : List ℤ) (replies : List Bool) (numbers : List ℕ) (symbols : List Float)
    → (r s : Result ℕ Refusal) (numbers₁ numbers₂ : List ℕ) (symbols₁ symbols₂ : List Float)
    → ListOffersSays rate xs replies numbers symbols r numbers₁ symbols₁ → ListOffersSays rate xs replies numbers symbols s numbers₂ symbols₂
    → (r ≡ s) × (numbers₁ ≡ numbers₂) × (symbols₁ ≡ symbols₂)
list_offers_only_answer rate xs replies numbers symbols r s numbers₁ numbers₂ symbols₁ symbols₂ p q = (
  once listing_paper listing_as listing_back r s (same_answer p.answers q.answers),
  same_answer p.numbered q.numbered,
  same_answer p.written q.written,
)

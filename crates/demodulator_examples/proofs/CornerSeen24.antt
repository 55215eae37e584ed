-- What a caller sees of the corner and of a mark at 24 kHz. Assumes nothing.
use mathlib.Core.Path.{◌≡◌, sym}
use mathlib.Core.Logic.{inl, inr}
use mathlib.Core.Bool.{true, false, true≢false}
use mathlib.Core.List.{List, map, Memᴰ}
use Prim.Native.Nat.{ℕ}
use native.Mathlib.Omega.{arith}
use Rattle.machine.specs.Runs.{answers, Each}
use Rattle.shaping.specs.Rate.{at24}
use Rattle.shaping.proofs.RateFacts.{facts24}
use Rattle.protocol.specs.declared.Kind.TheVariants.{Stream}
use Rattle.demodulator.specs.declared.Offer.{Offer}
use Rattle.demodulator.specs.Record.{fresh}
use Rattle.demodulator_run.specs.Demands.{shown_at}
use Rattle.demodulator_run.specs.Calls.{Call, one, receiver, Given, singles_from}
use Rattle.demodulator_run.specs.CallerSees.{offers_in}
use Rattle.demodulator_run.specs.OfferReports.{WaitSeen, CornerSeen, ReplacedSeen, OfferTaken}
use Rattle.demodulator_run.proofs.AtEachRate.{offer_place_24, offer_taken_24}
use Rattle.demodulator_examples.proofs.AsCalls.{as_given, as_offered}
use Rattle.demodulator_examples.proofs.Sketch24.{Sketch24, calls24, sampled24, ear24}
use Rattle.demodulator_examples.proofs.EarlierLarger24.{earlier_larger24, corner_due_24}
use Rattle.demodulator_examples.proofs.LaterSmaller24.{later_smaller24, marked_due_24}

-- ---- the corner, where an earlier-listed kind's match made the candidate older, and the offer of a kind that replaced one
module _ (S : Sketch24) where
  abbrev pub seen : List Call
  seen = map one (calls24 S)

  seen_given : Each Given seen
  seen_given = as_given at24 facts24 (calls24 S) (sampled24 S)

  abbrev Waits : Offer → Type 0
  Waits o = WaitSeen at24 (singles_from (fresh 24000) seen) o

abbrev cornered : Offer
cornered = record { kind = Stream; sample = 955; taken_at = 36; age = 2; replaced = false; gain = (shown_at (ear24 earlier_larger24) Stream 36 2 false).gain }

abbrev marked : Offer
marked = record { kind = Stream; sample = 956; taken_at = 37; age = 1; replaced = true; gain = (shown_at (ear24 later_smaller24) Stream 37 1 true).gain }

pub corner_offered_24 : Memᴰ cornered (offers_in (answers receiver (fresh 24000) (seen earlier_larger24)))
corner_offered_24 = as_offered at24 facts24 (calls24 earlier_larger24) (sampled24 earlier_larger24) 955 _ corner_due_24

pub marked_offered_24 : Memᴰ marked (offers_in (answers receiver (fresh 24000) (seen later_smaller24)))
marked_offered_24 = as_offered at24 facts24 (calls24 later_smaller24) (sampled24 later_smaller24) 956 _ marked_due_24

pub corner_place_24 : (W : Waits earlier_larger24 cornered) × CornerSeen at24 W
corner_place_24 =
    let P = offer_place_24 (seen earlier_larger24) (seen_given earlier_larger24) cornered corner_offered_24 in
    (P.wait, elim P.place [ inl q ↦ elim q.4 [ inl c ↦ c.0 | inr c ↦ absurd (omega (arith, c.1)) ] | inr q ↦ absurd (true≢false (sym q.0)) ])

pub marked_place_24 : (W : Waits later_smaller24 marked) × ReplacedSeen at24 W Stream
marked_place_24 =
    let P = offer_place_24 (seen later_smaller24) (seen_given later_smaller24) marked marked_offered_24 in
    (P.wait, elim P.place [ inl q ↦ absurd (true≢false q.0) | inr q ↦ q.1 ])

pub marked_taken_24 : OfferTaken at24 (singles_from (fresh 24000) (seen later_smaller24)) marked
marked_taken_24 = offer_taken_24 (seen later_smaller24) (seen_given later_smaller24) marked marked_offered_24

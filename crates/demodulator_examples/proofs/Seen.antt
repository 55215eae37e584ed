-- What a caller sees of the three lists of samples: on the first, the take at sample 71 and the one frame that it makes due; of each, its offer, and where and when it was found.
-- Assumes nothing.
use mathlib.Core.Path.{◌≡◌, sym}
use mathlib.Core.Logic.{inl, inr}
use mathlib.Core.Bool.{true, false, true≢false}
use mathlib.Core.List.{List, map, Memᴰ}
use Prim.Native.Nat.{ℕ, ◌+◌, ◌≤◌}
use native.Mathlib.Omega.{arith}
use Rattle.machine.specs.Runs.{run, answers, Each}
use Rattle.shaping.specs.Rate.{at48}
use Rattle.shaping.specs.Taps.{taps}
use Rattle.shaping.proofs.RateFacts.{facts48}
use Rattle.protocol.specs.declared.Kind.TheVariants.{Stream}
use Rattle.search.specs.declared.Shown.{Shown}
use Rattle.demodulator.specs.declared.Offer.{Offer}
use Rattle.demodulator.specs.Record.{fresh}
use Rattle.demodulator.specs.Calls.{offer_of}
use Rattle.demodulator_run.specs.Marks.{FellDue, log_all}
use Rattle.demodulator_run.specs.Demands.{In, shown_at}
use Rattle.demodulator_run.specs.Calls.{Call, one, receiver, Given, singles_from}
use Rattle.demodulator_run.specs.CallerSees.{TakenSeen, SomeDue, offers_in}
use Rattle.demodulator_run.specs.OfferReports.{WaitSeen, CornerSeen, ReplacedSeen, OfferTaken}
use Rattle.demodulator_run.proofs.AtEachRate.{demand_three_48, demand_three_sharp_48, offer_place_48, offer_age_48, offer_age_sharp_48, offer_taken_48}
use Rattle.demodulator_examples.proofs.Sketch.{Sketch, calls, sampled, shaped, fed_number}
use Rattle.demodulator_examples.proofs.AsCalls.{as_given, as_counted, as_taken, as_offered}
use Rattle.demodulator_examples.proofs.OneBurst.{one_burst}
use Rattle.demodulator_examples.proofs.EarlierLarger.{earlier_larger}
use Rattle.demodulator_examples.proofs.LaterSmaller.{later_smaller}
use Rattle.demodulator_examples.proofs.DueFrames.{one_burst_started, one_burst_due, corner_due, replaced_due}

-- ---- a list of samples, as calls
module _ (S : Sketch) where
  abbrev pub seen : List Call
  seen = map one (calls S)

  pub seen_given : Each Given seen
  seen_given = as_given at48 facts48 (calls S) (sampled S)

  -- a due frame is among the answers
  offered : (d : ℕ) (x : Shown) → In (FellDue d x) (log_all taps 10 (calls S)) → Memᴰ (offer_of x d) (offers_in (answers receiver (fresh 48000) seen))
  offered d x i = as_offered at48 facts48 (calls S) (sampled S) d x i

  abbrev Waits : Offer → Type 0
  Waits o = WaitSeen at48 (singles_from (fresh 48000) seen) o

-- ---- the take, and the one frame
pub taken_at_71 : TakenSeen at48 (singles_from (fresh 48000) (seen one_burst)) 71
taken_at_71 = as_taken at48 facts48 (calls one_burst) (sampled one_burst) 71 one_burst_started

enough : 71 + 1879 ≤ (run receiver (fresh 48000) (seen one_burst)).control.sample
enough = omega (arith, as_counted at48 facts48 (calls one_burst) (sampled one_burst), fed_number one_burst)

pub one_due : (d : ℕ) × SomeDue at48 (singles_from (fresh 48000) (seen one_burst)) d × (71 + 1839 ≤ d) × (d ≤ 71 + 1879)
    × ((e : ℕ) → SomeDue at48 (singles_from (fresh 48000) (seen one_burst)) e → 71 + 1839 ≤ e → e ≤ 71 + 1879 → e ≡ d)
one_due = (demand_three_48 (seen one_burst) (seen_given one_burst)).due_one 71 taken_at_71 enough

pub one_due_sharp : (d : ℕ) × SomeDue at48 (singles_from (fresh 48000) (seen one_burst)) d × (71 + 1839 ≤ d) × (d ≤ 71 + 1849)
    × ((e : ℕ) → SomeDue at48 (singles_from (fresh 48000) (seen one_burst)) e → 71 + 1839 ≤ e → e ≤ 71 + 1849 → e ≡ d)
one_due_sharp = (demand_three_sharp_48 (seen one_burst) (seen_given one_burst)).due_one 71 taken_at_71 (omega (arith, enough))

-- ---- the offers: one taken at 71 that failed at 72; one that an earlier-listed kind's match made older there; one that a later-listed kind replaced there
abbrev plain : Offer
plain = record { kind = Stream; sample = 1911; taken_at = 71; age = 1; replaced = false; gain = (shown_at (shaped one_burst) Stream 71 1 false).gain }

abbrev cornered : Offer
cornered = record { kind = Stream; sample = 1910; taken_at = 71; age = 2; replaced = false; gain = (shown_at (shaped earlier_larger) Stream 71 2 false).gain }

abbrev marked : Offer
marked = record { kind = Stream; sample = 1911; taken_at = 72; age = 1; replaced = true; gain = (shown_at (shaped later_smaller) Stream 72 1 true).gain }

pub plain_offered : Memᴰ plain (offers_in (answers receiver (fresh 48000) (seen one_burst)))
plain_offered = offered one_burst 1911 _ one_burst_due

pub corner_offered : Memᴰ cornered (offers_in (answers receiver (fresh 48000) (seen earlier_larger)))
corner_offered = offered earlier_larger 1910 _ corner_due

pub marked_offered : Memᴰ marked (offers_in (answers receiver (fresh 48000) (seen later_smaller)))
marked_offered = offered later_smaller 1911 _ replaced_due

-- each is the case of the rule that its numbers say
pub plain_place : (W : Waits one_burst plain) × (CornerSeen at48 W → ⊥)
plain_place =
    let P = offer_place_48 (seen one_burst) (seen_given one_burst) plain plain_offered in
    (P.wait, elim P.place [ inl q ↦ elim q.4 [ inl c ↦ absurd (omega (arith, c.1)) | inr c ↦ c.0 ] | inr q ↦ absurd (true≢false (sym q.0)) ])

pub corner_place : (W : Waits earlier_larger cornered) × CornerSeen at48 W
corner_place =
    let P = offer_place_48 (seen earlier_larger) (seen_given earlier_larger) cornered corner_offered in
    (P.wait, elim P.place [ inl q ↦ elim q.4 [ inl c ↦ c.0 | inr c ↦ absurd (omega (arith, c.1)) ] | inr q ↦ absurd (true≢false (sym q.0)) ])

pub marked_place : (W : Waits later_smaller marked) × ReplacedSeen at48 W Stream
marked_place =
    let P = offer_place_48 (seen later_smaller) (seen_given later_smaller) marked marked_offered in
    (P.wait, elim P.place [ inl q ↦ absurd (true≢false q.0) | inr q ↦ q.1 ])

-- the wait of each was set at 72; the candidate that failed there was taken at 71
pub plain_set : (W : Waits one_burst plain) × (W.s ≡ 72)
plain_set =
    let A = offer_age_48 (seen one_burst) (seen_given one_burst) plain plain_offered in
    (A.wait, omega (arith, A.wait.ends))

pub marked_set : (W : Waits later_smaller marked) × (W.s ≡ 72) × (W.failed.taken_at ≡ 71)
marked_set =
    let A = offer_age_48 (seen later_smaller) (seen_given later_smaller) marked marked_offered in
    let then : (A.wait.s ≡ 72) × (A.wait.failed.taken_at ≡ 71) = elim A.count [ inl q ↦ absurd (true≢false q.0) | inr q ↦ (sym q.1, omega (arith, q.1, q.2)) ] in
    (A.wait, then.0, then.1)

marked_sharp : 1 ≤ 10
marked_sharp = (offer_age_sharp_48 (seen later_smaller) (seen_given later_smaller) marked marked_offered).most

-- and each was taken where it says
pub plain_taken : OfferTaken at48 (singles_from (fresh 48000) (seen one_burst)) plain
plain_taken = offer_taken_48 (seen one_burst) (seen_given one_burst) plain plain_offered

pub marked_taken : OfferTaken at48 (singles_from (fresh 48000) (seen later_smaller)) marked
marked_taken = offer_taken_48 (seen later_smaller) (seen_given later_smaller) marked marked_offered

-- What a caller sees of the burst at 24 kHz: the take at sample 36, the one frame that it makes due, its offer, and where and when that was found. Assumes nothing.
use mathlib.Core.Path.{◌≡◌}
use mathlib.Core.List.{List, map, Memᴰ}
use Prim.Native.Nat.{ℕ, ◌+◌, ◌≤◌}
use native.Mathlib.Omega.{arith}
use Rattle.machine.specs.Runs.{run, answers, Each}
use Rattle.shaping.specs.Rate.{at24}
use Rattle.shaping.proofs.RateFacts.{facts24}
use Rattle.demodulator.specs.declared.Offer.{Offer}
use Rattle.demodulator.specs.Record.{fresh}
use Rattle.demodulator_run.specs.Rules.{Single}
use Rattle.demodulator_run.specs.Demands.{DueAt}
use Rattle.demodulator_run.specs.Calls.{Call, one, receiver, Given, singles_from}
use Rattle.demodulator_run.specs.CallerSees.{TakenSeen, SomeDue, offers_in}
use Rattle.demodulator_run.specs.OfferReports.{OfferPlace, OfferAge, OfferTaken}
use Rattle.demodulator_run.proofs.DemandAt.{log_at}
use Rattle.demodulator_run.proofs.DemandEachRate.{due_span_24, due_span_sharp_24}
use Rattle.demodulator_run.proofs.AtEachRate.{demand_three_24, demand_three_sharp_24, offer_place_24, offer_age_24, offer_age_sharp_24, offer_taken_24}
use Rattle.demodulator_examples.proofs.OneBurst24.{calls24, sampled24, fed24, started24}
use Rattle.demodulator_examples.proofs.AsCalls.{as_given, as_counted, as_taken}

-- ---- over the log
span24 : (d : ℕ) × DueAt (log_at at24 calls24) d × (36 + 919 ≤ d) × (d ≤ 36 + 939)
span24 = due_span_24 calls24 sampled24 36 started24 (omega (arith, fed24))

span_sharp24 : (d : ℕ) × DueAt (log_at at24 calls24) d × (36 + 919 ≤ d) × (d ≤ 36 + 924)
span_sharp24 = due_span_sharp_24 calls24 sampled24 36 started24 (omega (arith, fed24))

-- ---- as a caller sees it
abbrev pub seen24 : List Call
seen24 = map one calls24

given24 : Each Given seen24
given24 = as_given at24 facts24 calls24 sampled24

abbrev pub ss : List Single
ss = singles_from (fresh 24000) seen24

pub taken_at_36 : TakenSeen at24 ss 36
taken_at_36 = as_taken at24 facts24 calls24 sampled24 36 started24

enough : 36 + 939 ≤ (run receiver (fresh 24000) seen24).control.sample
enough = omega (arith, as_counted at24 facts24 calls24 sampled24, fed24)

pub one_due_24 : (d : ℕ) × SomeDue at24 ss d × (36 + 919 ≤ d) × (d ≤ 36 + 939) × ((e : ℕ) → SomeDue at24 ss e → 36 + 919 ≤ e → e ≤ 36 + 939 → e ≡ d)
one_due_24 = (demand_three_24 seen24 given24).due_one 36 taken_at_36 enough

pub one_due_sharp_24 : (d : ℕ) × SomeDue at24 ss d × (36 + 919 ≤ d) × (d ≤ 36 + 924) × ((e : ℕ) → SomeDue at24 ss e → 36 + 919 ≤ e → e ≤ 36 + 924 → e ≡ d)
one_due_sharp_24 = (demand_three_sharp_24 seen24 given24).due_one 36 taken_at_36 (omega (arith, enough))

-- ---- its offer
abbrev pub offer24 : Offer
offer24 = one_due_24.1.0

pub offered_24 : Memᴰ offer24 (offers_in (answers receiver (fresh 24000) seen24))
offered_24 = ((demand_three_24 seen24 given24).offers offer24).1 one_due_24.1.1

pub place_24 : OfferPlace at24 ss offer24 920 919
place_24 = offer_place_24 seen24 given24 offer24 offered_24

pub age_24 : OfferAge at24 ss offer24 6
age_24 = offer_age_24 seen24 given24 offer24 offered_24

pub age_sharp_24 : OfferAge at24 ss offer24 5
age_sharp_24 = offer_age_sharp_24 seen24 given24 offer24 offered_24

pub taken_24 : OfferTaken at24 ss offer24
taken_24 = offer_taken_24 seen24 given24 offer24 offered_24

-- Instances at 24 kHz: what the laws of a call ask can be met. And a rate that is none: each call is refused with 15,
-- though the record is unfit besides. Assumes nothing.
use mathlib.Core.Path.{◌≡◌, refl, sym, ap, ◌∙◌}
use mathlib.Core.Logic.{◌⊎◌, inl}
use mathlib.Core.Bool.{true}
use mathlib.Core.List.{[], ◌∷◌}
use Prim.Native.Nat.{ℕ}
use native.Mathlib.Omega.{arith}
use lib.Dec.{lit<, lit≤}
use lib.IntN.{pos}
use lib.ListN.{get_or, set, length-replicate}
use lib.Seq.{get_or-set_same, get_or-set_other}
use lib.Ieee.{nan, of_bits, lt, le}
use Rattle.numbers.specs.Below.{all_below}
use Rattle.shaping.specs.Rate.{at24, rate_of}
use Rattle.protocol.specs.Refusals.{bare}
use Rattle.decode.specs.Correlator.{in_range}
use Rattle.search.specs.declared.Reply.TheVariants.{Rejected}
use Rattle.search.specs.Fit.{candidate_fit_lem, wait_fit_lem, control_fit_lem}
use Rattle.demodulator.specs.declared.SoftDemodulator.{SoftDemodulator}
use Rattle.demodulator.specs.Record.{fresh_control, fresh, assembled, with_control}
use Rattle.demodulator.specs.Fit.{halves_agree_lem, record_fit_lem, fit_for_sample_lem, fit_for_reply_lem}
use Rattle.demodulator.specs.Calls.{done, refusal, Left, refused, demodulated, answered, made}
use Rattle.demodulator.specs.Singles.{sample, reply, query, left_at, left}
use Rattle.demodulator.specs.Feed.{Stretch, fed, fed_into}
use Rattle.demodulator.proofs.StepInstances.{room}
use Rattle.demodulator.proofs.CallCases.{sample_other_rate, reply_other_rate, reply_taken, carrier_other_rate}
use Rattle.demodulator.proofs.FeedSteps.{fed_some}
use Rattle.demodulator_laws.proofs.FitAgain.{InRange, Fits, Aged, Uncounted, Accepted}
use Rattle.demodulator_laws.proofs.FedFits.{Usable}
use Rattle.demodulator_laws.proofs.FitEachRate.{fit_again_24}
use Rattle.demodulator_laws.proofs.UnusedPlaces.{SameUsed, unused_untested, unused_kept, stretch_unused_kept}
use Rattle.demodulator_laws.proofs.SampleComes.{fed_stuck}
use Rattle.demodulator_laws.proofs.CallInstances.{owed, answer_at}
use Rattle.demodulator_laws.proofs.FitInstances.{one_fits, in_range_at, quiet_accepted, small}

-- ---- a fit record left fit
abbrev pub card : SoftDemodulator
card = fresh 24000

pub card_rate : card.rate ≡ 24000
unfolding fresh
card_rate = refl

card_in_range : InRange 5 card
card_in_range = in_range_at 5 24000 (lit≤ tt)

card_for_sample : fit_for_sample_lem 5 card ≡ true
unfolding fresh fit_for_sample_lem record_fit_lem halves_agree_lem control_fit_lem candidate_fit_lem wait_fit_lem all_below in_range of_bits le lt
card_for_sample = refl

card_for_reply : fit_for_reply_lem 5 card ≡ true
unfolding fresh fit_for_reply_lem record_fit_lem halves_agree_lem control_fit_lem candidate_fit_lem wait_fit_lem all_below in_range of_bits le lt
card_for_reply = refl

sample_meets_24 : let after = (demodulated at24 card (pos 1) room).demodulator in InRange 5 after × (Fits 5 after ⊎ Aged 5 card after)
sample_meets_24 = (fit_again_24 card card_rate card_in_range).sample (pos 1) one_fits room (quiet_accepted _ (answer_at at24 24000 card_for_sample))

stretch_meets_24 : Usable 5 (fed_into at24 card (pos 1 ∷ []) room).state
stretch_meets_24 =
    (fit_again_24 card card_rate card_in_range).stretch (pos 1 ∷ []) small room (inl (record { for_sample = card_for_sample; for_reply = card_for_reply }))

abbrev debtor24 : SoftDemodulator
debtor24 = with_control owed card

debtor24_for_reply : fit_for_reply_lem 5 debtor24 ≡ true
unfolding fresh fit_for_reply_lem record_fit_lem halves_agree_lem control_fit_lem candidate_fit_lem wait_fit_lem all_below in_range of_bits le lt
debtor24_for_reply = refl

debtor24_accepted : Accepted (answered 5 debtor24 Rejected []).answer
debtor24_accepted n e =
    let other : done ≡ refusal n = sym (ap (λ (l : Left). l.answer) (reply_taken 5 debtor24 Rejected [] debtor24_for_reply refl)) ∙ e in
    let z : ◌≡◌ {A = ℕ} 0 1 = cc in omega arith

reply_meets_24 : let after = (answered 5 debtor24 Rejected []).demodulator in InRange 5 after × (Fits 5 after ⊎ Uncounted 5 debtor24 after)
reply_meets_24 = (fit_again_24 debtor24 card_rate (record { rings = card_in_range.rings; values = card_in_range.values })).reply Rejected [] debtor24_accepted

-- ---- the places that are not used: a window with a 1 in place 82, whose other copy would be none, and a ring with a not-a-number in place 960
abbrev pub strewn : SoftDemodulator
strewn = assembled 24000 (set card.filter_win 82 (pos 1)) 0 (set card.rx_win 960 nan) 0 fresh_control

pub strewn_same : SameUsed 5 strewn card
unfolding fresh
strewn_same = record {
  rate = refl;
  window = λ i l. get_or-set_other card.filter_win 82 i (pos 1) (pos 0) (λ e. omega arith);
  window_cursor = refl;
  ring = λ i l. get_or-set_other card.rx_win 960 i nan nan (λ e. omega arith);
  ring_cursor = refl;
  control = refl;
}

strewn_fit : (fit_for_sample_lem 5 strewn ≡ true) × (fit_for_reply_lem 5 strewn ≡ true)
strewn_fit = let same = unused_untested 5 (lit< tt) strewn card strewn_same in (same.1 ∙ card_for_sample, same.2 ∙ card_for_reply)

-- a sample and a stretch leave the 1
strewn_one : get_or strewn.filter_win 82 (pos 0) ≡ pos 1
unfolding fresh
strewn_one = get_or-set_same card.filter_win 82 (pos 1) (pos 0) (omega (arith, length-replicate 162 (pos 0)))

strewn_sample : get_or (left strewn (sample (pos 7) room)).demodulator.filter_win 82 (pos 0) ≡ pos 1
strewn_sample = (unused_kept at24 strewn (sample (pos 7) room)).window 82 (lit≤ tt) ∙ strewn_one

strewn_stretch : get_or (fed_into at24 strewn (pos 7 ∷ pos 7 ∷ []) room).state.filter_win 82 (pos 0) ≡ pos 1
strewn_stretch = (stretch_unused_kept at24 strewn (pos 7 ∷ pos 7 ∷ []) room).window 82 (lit≤ tt) ∙ strewn_one

-- ---- "15, any rate but the two, checked first": a sample a second too many; a cursor past its ring, the owed reply and the room would be refused with 1, 2 and 4
abbrev foreign : SoftDemodulator
foreign = assembled 24001 [] 41 [] 960 owed

sample_foreign : left foreign (sample (pos 1) []) ≡ refused 15 foreign []
unfolding left_at
sample_foreign = sample_other_rate (rate_of 24001) foreign (pos 1) [] refl

reply_foreign : left foreign (reply Rejected) ≡ refused 15 foreign []
unfolding left_at
reply_foreign = reply_other_rate 5 foreign Rejected [] refl

query_foreign : (left foreign query).answer ≡ refusal (bare 15)
unfolding left_at
query_foreign = carrier_other_rate 5 foreign refl

abbrev turned_down : Stretch SoftDemodulator
turned_down = record { answer = refusal (bare 15); fed = 0; state = foreign; room = [] }

stretch_foreign : fed_into (rate_of 24001) foreign (pos 1 ∷ []) [] ≡ turned_down
stretch_foreign =
    fed_some (rate_of 24001) foreign (pos 1 ∷ []) [] (lit< tt)
    ∙ fed_stuck (rate_of 24001) foreign (pos 1) [] [] 0 15 (sample_other_rate (rate_of 24001) foreign (pos 1) [] refl)

empty_foreign : fed_into (rate_of 24001) foreign [] [] ≡ turned_down
unfolding fed record_fit_lem
empty_foreign = refl

new_foreign : ((made 24001).answer ≡ refusal (bare 15)) × ((made 24000).answer ≡ done) × ((made 48000).answer ≡ done)
unfolding made
new_foreign = (refl, refl, refl)

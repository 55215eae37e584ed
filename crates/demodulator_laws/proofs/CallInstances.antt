-- Small instances of the laws of the calls, at a fresh record and at one that awaits a frame or owes a reply: what the laws ask can be met. Assumes nothing.
use Rattle.std.specs.Prelude.{Some, None}
use mathlib.Core.Path.{◌≡◌, refl, sym, ap}
use mathlib.Core.Logic.{◌⊎◌}
use mathlib.Core.Bool.{true, false}
use mathlib.Core.List.{[]}
use Prim.Native.Nat.{ℕ, ◌^◌, ◌<◌}
use lib.Dec.{T, lit<, lit≤}
use lib.IntN.{pos}
use lib.Ieee.{Float, binary32, of_bits, lt, le}
use Rattle.numbers.specs.Below.{all_below}
use Rattle.shaping.specs.Rate.{Rate, at48}
use Rattle.protocol.specs.declared.Kind.TheVariants.{Bert}
use Rattle.protocol.specs.declared.Refusal.TheVariants.{RecordUnfit}
use Rattle.protocol.specs.Refusals.{bare}
use Rattle.decode.specs.Correlator.{in_range}
use Rattle.search.specs.declared.Candidate.TheVariants.{Nothing}
use Rattle.search.specs.declared.Control.{Control}
use Rattle.search.specs.declared.Reply.TheVariants.{Accepted, Rejected}
use Rattle.search.specs.Search.{searched}
use Rattle.search.specs.Turn.{quiet, offer, control_of, counted, waiting_on, freed, owing, due_turn, sampled, replied}
use Rattle.search.specs.Fit.{candidate_fit_lem, wait_fit_lem, control_fit_lem}
use Rattle.search.proofs.TurnFits.{counted_fit, freed_fit}
use Rattle.demodulator.specs.declared.SoftDemodulator.{SoftDemodulator}
use Rattle.demodulator.specs.Spans.{eight}
use Rattle.demodulator.specs.Record.{fresh_control, fresh, assembled, with_control, back, stored}
use Rattle.demodulator.specs.Fit.{halves_agree_lem, record_fit_lem, fit_for_sample_lem, fit_for_reply_lem}
use Rattle.demodulator.specs.Calls.{nothing, done, refusal, carrier, refused, Left, demodulated, reply_leaves, answered, detected}
use Rattle.demodulator.specs.Steps.{unmoved, Steps}
use Rattle.demodulator.proofs.StepInstances.{fresh_for_sample, room, room_enough}
use Rattle.demodulator.proofs.CallCases.{sample_unfit, sample_owed, sample_cramped, sample_last, sample_taken, refuses, reply_unfit, reply_unasked, reply_taken, carrier_unfit, carrier_told}
use Rattle.demodulator_laws.proofs.ExampleBurst.{held_at, wait_of}
use Rattle.search.proofs.SampleByWait.{sampled_free, sampled_rest, sampled_due}
use Rattle.demodulator_laws.proofs.RecordInstances.{fresh_for_reply}
use Rattle.demodulator_laws.proofs.SampleFits.{sampled_fits, replied_fits, replied_either}
use Rattle.demodulator_laws.proofs.WaitFits.{waiting_fit, settled_fit}
use Rattle.demodulator_laws.proofs.SearchFits.{Outgrown, Unnumbered}

-- ---- controls
abbrev waiting : ℕ → Control
waiting left = record { candidate = held_at Bert 254; wait = Some (wait_of left); dcd = Some 3840; owed = false; sample = 1840 }

abbrev pub owed : Control
owed = owing true fresh_control

waiting_two_fit : T (control_fit_lem 10 (waiting 2))
unfolding control_fit_lem candidate_fit_lem wait_fit_lem in_range of_bits le lt
waiting_two_fit = tt

owed_fit : T (control_fit_lem 10 owed)
unfolding control_fit_lem candidate_fit_lem wait_fit_lem
owed_fit = tt

owed_counted_fit : T (control_fit_lem 10 (counted owed))
owed_counted_fit = counted_fit 10 owed owed_fit (lit< tt)

silent : ℕ → Float
silent i = of_bits binary32 0

silent_range : (i : ℕ) → i < 8 → T (in_range (silent i))
unfolding silent in_range of_bits le lt
silent_range i l = tt

sampled_free_meets : sampled 10 silent fresh_control ≡ quiet (searched 10 silent (counted fresh_control))
sampled_free_meets = sampled_free 10 silent fresh_control refl

sampled_rest_meets : sampled 10 silent (waiting 2) ≡ quiet (waiting_on (wait_of 1) (counted (waiting 2)))
sampled_rest_meets = sampled_rest 10 silent (waiting 2) (wait_of 2) refl (lit≤ tt)

-- a due BERT frame is offered
sampled_due_meets : sampled 10 silent (waiting 1) ≡ offer (record { kind = Bert; gain = of_bits binary32 0x4180_0000; shift = of_bits binary32 0; taken_at = 1; age = 1; replaced = false }) (owing true (freed (counted (waiting 1))))
unfolding due_turn
sampled_due_meets = sampled_due 10 silent (waiting 1) (wait_of 1) refl (lit≤ tt)

counted_fit_meets : T (control_fit_lem 10 (counted (waiting 2)))
counted_fit_meets = counted_fit 10 (waiting 2) waiting_two_fit (lit< tt)

waiting_fit_meets : T (control_fit_lem 10 (waiting_on (wait_of 1) (waiting 2)))
waiting_fit_meets = waiting_fit 10 (waiting 2) waiting_two_fit (wait_of 2) refl (lit≤ tt)

freed_fit_meets : T (control_fit_lem 10 (owing true (freed (waiting 2))))
freed_fit_meets = freed_fit 10 (waiting 2) waiting_two_fit true

settled_fit_meets : T (control_fit_lem 10 (owing false owed))
settled_fit_meets = settled_fit 10 owed owed_fit

sampled_fits_meets : T (control_fit_lem 10 (control_of (sampled 10 silent (waiting 2)))) ⊎ Outgrown 10 (waiting 2) (control_of (sampled 10 silent (waiting 2)))
sampled_fits_meets = sampled_fits 10 (lit≤ tt) silent silent_range (waiting 2) waiting_two_fit (lit< tt) refl

replied_fits_meets : T (control_fit_lem 10 (replied 10 silent Rejected (counted owed)))
replied_fits_meets = replied_fits 10 (lit≤ tt) silent silent_range (counted owed) owed_counted_fit refl (lit≤ tt) Rejected

replied_either_meets : T (control_fit_lem 10 (replied 10 silent Rejected owed)) ⊎ Unnumbered 10 owed (replied 10 silent Rejected owed)
replied_either_meets = replied_either 10 (lit≤ tt) silent silent_range owed owed_fit refl Rejected

-- ---- a sample
past : SoftDemodulator
past = assembled 48000 [] 81 [] 0 fresh_control

past_unfit : fit_for_sample_lem 10 past ≡ false
unfolding past fit_for_sample_lem record_fit_lem halves_agree_lem all_below
past_unfit = refl

sample_unfit_meets : demodulated at48 past (pos 1) [] ≡ refused 1 past []
unfolding past
sample_unfit_meets = sample_unfit at48 past (pos 1) [] refl past_unfit

abbrev pub debtor : SoftDemodulator
debtor = with_control owed (fresh 48000)

debtor_for_sample : fit_for_sample_lem 10 debtor ≡ true
unfolding fresh fit_for_sample_lem record_fit_lem halves_agree_lem control_fit_lem candidate_fit_lem wait_fit_lem all_below in_range of_bits le lt
debtor_for_sample = refl

debtor_for_reply : fit_for_reply_lem 10 debtor ≡ true
unfolding fresh fit_for_reply_lem record_fit_lem halves_agree_lem control_fit_lem candidate_fit_lem wait_fit_lem all_below in_range of_bits le lt
debtor_for_reply = refl

-- 2 before 4
sample_owed_meets : demodulated at48 debtor (pos 1) [] ≡ refused 2 debtor []
sample_owed_meets = sample_owed at48 debtor (pos 1) [] debtor_for_sample refl

pub fresh_free : (fresh 48000).control.owed ≡ false
unfolding fresh
fresh_free = refl

sample_cramped_meets : demodulated at48 (fresh 48000) (pos 1) [] ≡ refused 4 (fresh 48000) []
sample_cramped_meets = sample_cramped at48 (fresh 48000) (pos 1) [] fresh_for_sample fresh_free (lit< tt)

abbrev last : SoftDemodulator
last = with_control (record { candidate = Nothing; wait = None; dcd = None; owed = false; sample = 2 ^ 63 }) (fresh 48000)

last_for_sample : fit_for_sample_lem 10 last ≡ true
unfolding fresh fit_for_sample_lem record_fit_lem halves_agree_lem control_fit_lem candidate_fit_lem wait_fit_lem all_below in_range of_bits le lt
last_for_sample = refl

sample_last_meets : demodulated at48 last (pos 1) room ≡ refused 5 last room
sample_last_meets = sample_last at48 last (pos 1) room last_for_sample refl room_enough refl

pub answer_at : (R : Rate) (rate : ℕ) → fit_for_sample_lem R.p (fresh rate) ≡ true → (demodulated R (fresh rate) (pos 1) room).answer ≡ nothing
unfolding fresh
answer_at R rate fit =
    let v = eight R.p (back R.p (stored R (fresh rate) (pos 1))) in
    ap (λ (left : Left). left.answer)
    (sample_taken R (fresh rate) (pos 1) room fit refl room_enough (lit< tt) (quiet (searched R.p v (counted fresh_control))) (sym (sampled_free R.p v fresh_control refl)))

pub fresh_answer : (demodulated at48 (fresh 48000) (pos 1) room).answer ≡ nothing
fresh_answer = answer_at at48 48000 fresh_for_sample

refuses_meets : Steps 10 [] [] (record { filter_cursor = 81; rx_cursor = 0 }) fresh_control (pos 1) [] (unmoved RecordUnfit (record { filter_cursor = 81; rx_cursor = 0 }) fresh_control) [] [] []
unfolding fit_for_sample_lem record_fit_lem halves_agree_lem all_below
refuses_meets = refuses 10 [] [] [] (record { filter_cursor = 81; rx_cursor = 0 }) fresh_control (pos 1) RecordUnfit _ refl (λ rate known. sample_unfit at48 (assembled rate [] 81 [] 0 fresh_control) (pos 1) [] known (rw known))

-- ---- a reply, and the carrier
past_for_reply : fit_for_reply_lem 10 past ≡ false
unfolding past fit_for_reply_lem record_fit_lem halves_agree_lem all_below
past_for_reply = refl

reply_unfit_meets : answered 10 past Accepted [] ≡ refused 1 past []
unfolding past
reply_unfit_meets = reply_unfit 10 past Accepted [] refl past_for_reply

reply_unasked_meets : answered 10 (fresh 48000) Accepted [] ≡ refused 3 (fresh 48000) []
reply_unasked_meets = reply_unasked 10 (fresh 48000) Accepted [] fresh_for_reply fresh_free

pub reply_taken_meets : answered 10 debtor Rejected [] ≡ record { answer = done; demodulator = reply_leaves 10 debtor Rejected; room = [] }
reply_taken_meets = reply_taken 10 debtor Rejected [] debtor_for_reply refl

carrier_unfit_meets : detected 10 past ≡ refusal (bare 1)
unfolding past record_fit_lem halves_agree_lem all_below
carrier_unfit_meets = carrier_unfit 10 past refl refl

-- a query is answered while a reply is owed
carrier_told_meets : detected 10 debtor ≡ carrier false
unfolding fresh record_fit_lem halves_agree_lem control_fit_lem candidate_fit_lem wait_fit_lem all_below
carrier_told_meets = carrier_told 10 debtor refl

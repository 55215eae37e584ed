-- Small instances of a refused stretch, and of one whose second sample would be refused: the count is at its end, or one before it. Assumes nothing.
use Rattle.std.specs.Prelude.{Some, None}
use mathlib.Core.Path.{◌≡◌, refl, sym, ap, ◌∙◌}
use mathlib.Core.Bool.{true, false}
use mathlib.Core.List.{List, [], ◌∷◌}
use Prim.Native.Nat.{ℕ, ◌-◌, ◌^◌, ◌<◌}
use lib.Dec.{lit<, lit≤}
use lib.IntN.{ℤ, pos}
use lib.ListN.{drop}
use lib.Ieee.{of_bits, lt, le}
use Rattle.numbers.specs.Below.{all_below}
use Rattle.shaping.specs.Rate.{at48}
use Rattle.protocol.specs.declared.Kind.TheVariants.{Lsf}
use Rattle.protocol.specs.Refusals.{bare}
use Rattle.decode.specs.Correlator.{in_range}
use Rattle.search.specs.declared.Control.{Control}
use Rattle.search.specs.Turn.{quiet, cleared, counted, waiting_on}
use Rattle.search.specs.Fit.{candidate_fit_lem, wait_fit_lem, control_fit_lem}
use Rattle.demodulator.specs.declared.SoftDemodulator.{SoftDemodulator}
use Rattle.demodulator.specs.Spans.{eight}
use Rattle.demodulator.specs.Record.{fresh, with_control, back, stored}
use Rattle.demodulator.specs.Fit.{halves_agree_lem, record_fit_lem, fit_for_sample_lem}
use Rattle.demodulator.specs.Calls.{refusal, nothing, demodulated}
use Rattle.demodulator.specs.Feed.{Stretch, sample_said, sample_next, sample_room, empty_said, fed_into}
use Rattle.demodulator.proofs.StepInstances.{room, room_enough}
use Rattle.demodulator.proofs.CallCases.{sample_last, sample_taken}
use Rattle.demodulator.proofs.FeedSteps.{fed_some}
use Rattle.demodulator_laws.proofs.ExampleBurst.{held_at, wait_of}
use Rattle.search.proofs.SampleByWait.{sampled_rest}
use Rattle.demodulator_laws.proofs.SampleComes.{fed_silent, fed_stuck}
use Rattle.demodulator_laws.proofs.RefusedFeed.{refused_feed, rest_refused}

-- a candidate is held and its frame is not due yet, so that no search runs
abbrev waiting : ℕ → ℕ → Control
waiting left count = record { candidate = held_at Lsf 1; wait = Some (wait_of left); dcd = None; owed = false; sample = count }

abbrev two : List ℤ
two = pos 1 ∷ pos 1 ∷ []

-- ---- at the end of the count
abbrev last : SoftDemodulator
last = with_control (waiting 2 (2 ^ 63)) (fresh 48000)

last_fit : fit_for_sample_lem 10 last ≡ true
unfolding fresh fit_for_sample_lem record_fit_lem halves_agree_lem control_fit_lem candidate_fit_lem wait_fit_lem all_below in_range of_bits le lt
last_fit = refl

last_refused : (fed_into at48 last two room).answer ≡ refusal (bare 5)
last_refused = ap (λ (t : Stretch SoftDemodulator). t.answer) (fed_some at48 last two room (lit< tt) ∙ fed_stuck at48 last (pos 1) (pos 1 ∷ []) room 0 5 (sample_last at48 last (pos 1) room last_fit refl room_enough refl))

refused_feed_meets : fed_into at48 last two room ≡ record { answer = refusal (bare 5); fed = 0; state = last; room = room }
refused_feed_meets = refused_feed SoftDemodulator (sample_said at48) (sample_next at48) (sample_room at48) (empty_said 10) last two room (bare 5) last_refused

-- ---- one before it
abbrev before : SoftDemodulator
before = with_control (waiting 3 (2 ^ 63 - 1)) (fresh 48000)

before_fit : fit_for_sample_lem 10 before ≡ true
unfolding fresh fit_for_sample_lem record_fit_lem halves_agree_lem control_fit_lem candidate_fit_lem wait_fit_lem all_below in_range of_bits le lt
before_fit = refl

abbrev after : SoftDemodulator
after = with_control (waiting 2 (2 ^ 63)) (stored at48 before (pos 1))

after_fit : fit_for_sample_lem 10 after ≡ true
unfolding fresh stored fit_for_sample_lem record_fit_lem halves_agree_lem control_fit_lem candidate_fit_lem wait_fit_lem all_below in_range of_bits le lt
after_fit = refl

taken : demodulated at48 before (pos 1) room ≡ record { answer = nothing; demodulator = after; room = room }
unfolding cleared
taken = sample_taken at48 before (pos 1) room before_fit refl room_enough (lit< tt) (quiet (waiting_on (wait_of 2) (counted before.control))) (sym (sampled_rest 10 (eight 10 (back 10 (stored at48 before (pos 1)))) before.control (wait_of 3) refl (lit≤ tt)))

before_stops : fed_into at48 before two room ≡ record { answer = nothing; fed = 1; state = after; room = room }
before_stops =
    fed_some at48 before two room (lit< tt)
    ∙ fed_silent at48 before (pos 1) (pos 1 ∷ []) room 0 after taken
    ∙ fed_stuck at48 after (pos 1) [] room 1 5 (sample_last at48 after (pos 1) room after_fit refl room_enough refl)

before_less : (fed_into at48 before two room).fed < 2
before_less = rw before_stops (lit< tt)

rest_refused_meets : let t = fed_into at48 before two room in (number : ℕ) × (fed_into at48 t.state (drop t.fed two) t.room ≡ record { answer = refusal (bare number); fed = 0; state = t.state; room = t.room })
rest_refused_meets = rest_refused at48 before two room (ap (λ (t : Stretch SoftDemodulator). t.answer) before_stops) before_less

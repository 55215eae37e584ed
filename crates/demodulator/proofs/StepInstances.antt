-- Small instances of the laws of a step, at a fresh record: what the laws ask can be met. Assumes nothing.
use Rattle.std.specs.Prelude.{None, Ok}
use mathlib.Core.Path.{◌≡◌, refl}
use mathlib.Core.Bool.{true}
use mathlib.Core.List.{List}
use Prim.Native.Nat.{ℕ, ◌≤◌, ◌<◌}
use native.Mathlib.Omega.{arith}
use lib.Dec.{lit<}
use lib.IntN.{pos}
use lib.ListN.{length, replicate, length-replicate}
use lib.Ieee.{Float, nan, of_bits, lt, le}
use Rattle.numbers.specs.Below.{all_below}
use Rattle.numbers.specs.Firsts.{firsts}
use Rattle.shaping.specs.Rate.{rate_fit, at48, window_places}
use Rattle.shaping.proofs.RateFacts.{facts48}
use Rattle.decode.specs.Correlator.{in_range}
use Rattle.decode.specs.Parts.{values_of}
use Rattle.search.specs.declared.Turn.TheVariants.{Look}
use Rattle.search.specs.Search.{searched}
use Rattle.search.specs.Turn.{counted, waited_turn}
use Rattle.search.specs.Fit.{candidate_fit_lem, wait_fit_lem, control_fit_lem}
use Rattle.search.specs.Promises.{TurnOfSays}
use Rattle.demodulator.specs.declared.SoftDemodulator.{SoftDemodulator}
use Rattle.demodulator.specs.declared.step.Places.{Places}
use Rattle.demodulator.specs.Spans.{eight}
use Rattle.demodulator.specs.Record.{fresh_control, fresh, assembled, back, stored}
use Rattle.demodulator.specs.Fit.{halves_agree_lem, record_fit_lem, fit_for_sample_lem}
use Rattle.demodulator.specs.Calls.{DemodAt}
use Rattle.demodulator.specs.Parts.{Stores}
use Rattle.demodulator.specs.Steps.{Accepts}
use Rattle.demodulator.proofs.HalvesKept.{KeepsHalves, step_kept}
use Rattle.demodulator.proofs.StepTurn.{accepts_inside, seen, looks}

-- ---- a fresh record, a room and a sample
pub fresh_for_sample : fit_for_sample_lem 10 (fresh 48000) ≡ true
unfolding fresh fit_for_sample_lem record_fit_lem halves_agree_lem control_fit_lem candidate_fit_lem wait_fit_lem all_below in_range of_bits le lt
fresh_for_sample = refl

abbrev pub room : List Float
room = replicate 192 nan

pub room_enough : 192 ≤ length room
room_enough = omega (arith, length-replicate 192 nan)

-- ---- the step
fresh_parts : (rate : ℕ) → rate_fit rate ≡ true → fit_for_sample_lem 10 (assembled rate (fresh 48000).filter_win 0 (fresh 48000).rx_win 0 fresh_control) ≡ true
unfolding fresh fit_for_sample_lem record_fit_lem halves_agree_lem control_fit_lem candidate_fit_lem wait_fit_lem all_below in_range of_bits le lt
fresh_parts rate known = rw known

fresh_accepts : Accepts 10 (fresh 48000).filter_win (fresh 48000).rx_win (record { filter_cursor = 0; rx_cursor = 0 }) fresh_control room
unfolding fresh
fresh_accepts = record { known = facts48.known; fit = fresh_parts; no_reply = refl; room_enough = room_enough; count = lit< tt }

accepts_inside_meets : (0 < 81) × (0 < 1920)
accepts_inside_meets = accepts_inside fresh_accepts

abbrev after : SoftDemodulator
after = stored at48 (fresh 48000) (pos 1)

fresh_stores : Stores 10 (fresh 48000).filter_win 0 (fresh 48000).rx_win 0 (pos 1) after.filter_win after.rx_win
unfolding fresh stored
fresh_stores rate c = refl

abbrev values : List Float
values = firsts (eight 10 (back 10 after)) 8

abbrev start : Places
start = record { filter_cursor = 0; rx_cursor = 0 }

values_held : values ≡ firsts (eight 10 (back 10 (assembled 48000 after.filter_win 1 after.rx_win 1 fresh_control))) 8
unfolding fresh stored
values_held = refl

seen_meets : values_of values 7 ≡ back 10 after 0
unfolding fresh
seen_meets = seen 10 (fresh 48000).filter_win after.filter_win (fresh 48000).rx_win after.rx_win start fresh_control (pos 1) fresh_stores 48000 values values_held 7 (lit< tt)

fresh_turns : TurnOfSays fresh_control 1 (Look (counted fresh_control))
unfolding waited_turn
fresh_turns = refl

looks_meets :
    DemodAt at48 (fresh 48000) (pos 1) room
    (record { answer = (Ok None); demodulator = assembled 48000 after.filter_win 1 after.rx_win 1 (searched 10 (values_of values) (counted fresh_control)) })
    room
unfolding fresh
looks_meets = looks 10 (fresh 48000).filter_win after.filter_win (fresh 48000).rx_win after.rx_win start fresh_control (pos 1) fresh_stores room fresh_accepts 48000 refl (Look (counted fresh_control)) fresh_turns (counted fresh_control) refl values values_held (searched 10 (values_of values) (counted fresh_control)) refl

-- ---- the halves
fresh_long : window_places 10 ≤ length (fresh 48000).filter_win
unfolding fresh
fresh_long = omega (arith, length-replicate 162 (pos 0))

step_kept_meets : KeepsHalves 10 (fresh 48000) (assembled 48000 after.filter_win 1 after.rx_win 1 (searched 10 (values_of values) (counted fresh_control)))
step_kept_meets = step_kept at48 (fresh 48000) fresh_long (pos 1) room (Ok None) _ room looks_meets

-- Each limit of 'Unfit receiver' on the window and the ring, met and passed by one, worked out at 48 kHz. Assumes nothing.
use Rattle.std.specs.Prelude.{Some}
use mathlib.Core.Path.{◌≡◌, refl}
use mathlib.Core.Bool.{Bool, true, false}
use Prim.Native.Nat.{ℕ}
use lib.Ieee.{Float, nan, binary32, of_bits, lt, le}
use lib.ListN.{set}
use Rattle.numbers.specs.Below.{all_below}
use Rattle.decode.specs.Correlator.{in_range}
use Rattle.search.specs.declared.Control.{Control}
use Rattle.search.specs.Fit.{candidate_fit_lem, wait_fit_lem, control_fit_lem}
use Rattle.demodulator.specs.declared.SoftDemodulator.{SoftDemodulator}
use Rattle.demodulator.specs.Record.{fresh, assembled}
use Rattle.demodulator.specs.Fit.{halves_agree_lem, record_fit_lem, fit_for_sample_lem, fit_for_reply_lem}
use Rattle.demodulator_laws.proofs.ExampleBurst.{wait_of}
use Rattle.demodulator_laws.proofs.Limits.{million, past_million, bare, held}

-- ---- the cursors: "a cursor at or past its ring's length (81, 1,920)"
abbrev pub cursors_at : ℕ → ℕ → ℕ → SoftDemodulator
cursors_at rate windowCursor ringCursor = assembled rate (fresh rate).filter_win windowCursor (fresh rate).rx_win ringCursor (fresh rate).control

abbrev placed : ℕ → ℕ → Bool → Type 0
placed windowCursor ringCursor answer = record_fit_lem 10 (cursors_at 48000 windowCursor ringCursor) ≡ answer

cursors_last : placed 80 1919 true
unfolding fresh record_fit_lem halves_agree_lem control_fit_lem candidate_fit_lem wait_fit_lem all_below
cursors_last = refl

window_past : placed 81 1919 false
unfolding fresh record_fit_lem halves_agree_lem all_below
window_past = refl

ring_past : placed 80 1920 false
unfolding fresh record_fit_lem halves_agree_lem all_below
ring_past = refl

-- ---- the filtered values, at a cursor of 0
abbrev pub waiting : ℕ → Control
waiting left = bare held (Some (wait_of left)) false

abbrev pub value_at : ℕ → Control → ℕ → Float → SoftDemodulator
value_at rate c place value = assembled rate (fresh rate).filter_win 0 (set (fresh rate).rx_win place value) 0 c

abbrev with_value : Control → ℕ → Float → SoftDemodulator
with_value = value_at 48000

-- "a filtered value not within ±1,000,000 in one of the seven ring places this sample's search would read besides the new value": 1910, 1900, .. 1850
sample_value_last : fit_for_sample_lem 10 (with_value (fresh 48000).control 1850 million) ≡ true
unfolding fresh fit_for_sample_lem record_fit_lem halves_agree_lem control_fit_lem candidate_fit_lem wait_fit_lem all_below in_range of_bits le lt
sample_value_last = refl

sample_value_past : fit_for_sample_lem 10 (with_value (fresh 48000).control 1850 past_million) ≡ false
unfolding fresh fit_for_sample_lem record_fit_lem halves_agree_lem control_fit_lem candidate_fit_lem wait_fit_lem all_below in_range of_bits le lt
sample_value_past = refl

sample_value_below : fit_for_sample_lem 10 (with_value (fresh 48000).control 1910 (of_bits binary32 0xc974_2401)) ≡ false
unfolding fresh fit_for_sample_lem record_fit_lem halves_agree_lem control_fit_lem candidate_fit_lem wait_fit_lem all_below in_range of_bits le lt
sample_value_below = refl

sample_value_untested : fit_for_sample_lem 10 (with_value (fresh 48000).control 1840 nan) ≡ true
unfolding fresh fit_for_sample_lem record_fit_lem halves_agree_lem control_fit_lem candidate_fit_lem wait_fit_lem all_below in_range of_bits le lt
sample_value_untested = refl

-- "or, where the wait is 1, in one of the other places the window reads": down to 10
window_value_last : fit_for_sample_lem 10 (with_value (waiting 1) 10 million) ≡ true
unfolding fresh fit_for_sample_lem record_fit_lem halves_agree_lem control_fit_lem candidate_fit_lem wait_fit_lem all_below in_range of_bits le lt
window_value_last = refl

window_value_past : fit_for_sample_lem 10 (with_value (waiting 1) 10 past_million) ≡ false
unfolding fresh fit_for_sample_lem record_fit_lem halves_agree_lem control_fit_lem candidate_fit_lem wait_fit_lem all_below in_range of_bits le lt
window_value_past = refl

window_value_untested : fit_for_sample_lem 10 (with_value (waiting 2) 10 nan) ≡ true
unfolding fresh fit_for_sample_lem record_fit_lem halves_agree_lem control_fit_lem candidate_fit_lem wait_fit_lem all_below in_range of_bits le lt
window_value_untested = refl

-- "on a reply: in one of the eight places": 1919, 1909, .. 1849
reply_value_last : fit_for_reply_lem 10 (with_value (fresh 48000).control 1849 million) ≡ true
unfolding fresh fit_for_reply_lem record_fit_lem halves_agree_lem control_fit_lem candidate_fit_lem wait_fit_lem all_below in_range of_bits le lt
reply_value_last = refl

reply_value_past : fit_for_reply_lem 10 (with_value (fresh 48000).control 1849 past_million) ≡ false
unfolding fresh fit_for_reply_lem record_fit_lem halves_agree_lem control_fit_lem candidate_fit_lem wait_fit_lem all_below in_range of_bits le lt
reply_value_past = refl

reply_value_untested : fit_for_reply_lem 10 (with_value (fresh 48000).control 1850 nan) ≡ true
unfolding fresh fit_for_reply_lem record_fit_lem halves_agree_lem control_fit_lem candidate_fit_lem wait_fit_lem all_below in_range of_bits le lt
reply_value_untested = refl

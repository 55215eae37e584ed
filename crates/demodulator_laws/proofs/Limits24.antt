-- Each limit of 'Unfit receiver' at 24 kHz, met and passed by one, worked out: document 02's numbers, and the places that are not used. Assumes nothing.
use mathlib.Core.Path.{◌≡◌, refl}
use mathlib.Core.Bool.{Bool, true, false}
use Prim.Native.Nat.{ℕ, ◌+◌, ◌^◌}
use lib.IntN.{pos}
use lib.ListN.{set}
use lib.Ieee.{Float, nan, binary32, of_bits, lt, le}
use Rattle.numbers.specs.Below.{all_below}
use Rattle.decode.specs.Correlator.{in_range}
use Rattle.search.specs.declared.Control.{Control}
use Rattle.search.specs.Fit.{candidate_fit_lem, wait_fit_lem, control_fit_lem}
use Rattle.demodulator.specs.declared.SoftDemodulator.{SoftDemodulator}
use Rattle.demodulator.specs.Record.{fresh, assembled}
use Rattle.demodulator.specs.Fit.{halves_agree_lem, record_fit_lem, fit_for_sample_lem, fit_for_reply_lem}
use Rattle.demodulator_laws.proofs.Limits.{control, million, past_million, under_hundred, sixteen, kept_at}
use Rattle.demodulator_laws.proofs.RingLimits.{cursors_at, waiting, value_at}

-- ---- the control: "wait 1 to 919, timer end 2^63 + 1,920"
abbrev Fits24 : Control → Bool → Type 0
Fits24 c answer = control_fit_lem 5 c ≡ answer

highest24 : Fits24 (control (2 ^ 63) (2 ^ 63 + 1920) 254 under_hundred million million 919) true
unfolding control_fit_lem candidate_fit_lem wait_fit_lem in_range of_bits le lt
highest24 = refl

lowest24 : Fits24 (control 1 0 1 (of_bits binary32 0x8000_0000) sixteen (of_bits binary32 0xc974_2400) 1) true
unfolding control_fit_lem candidate_fit_lem wait_fit_lem in_range of_bits le lt
lowest24 = refl

end_past24 : Fits24 (control (2 ^ 63) (2 ^ 63 + 1921) 254 under_hundred million million 919) false
unfolding control_fit_lem
end_past24 = refl

wait_past24 : Fits24 (control (2 ^ 63) (2 ^ 63 + 1920) 254 under_hundred million million 920) false
unfolding control_fit_lem candidate_fit_lem wait_fit_lem in_range of_bits le lt
wait_past24 = refl

wait_none24 : Fits24 (control 1 0 1 (of_bits binary32 0) sixteen million 0) false
unfolding control_fit_lem candidate_fit_lem wait_fit_lem in_range of_bits le lt
wait_none24 = refl

-- the other limits are of no rate
count_past24 : Fits24 (control (2 ^ 63 + 1) (2 ^ 63 + 1920) 254 under_hundred million million 919) false
unfolding control_fit_lem
count_past24 = refl

age_past24 : Fits24 (control (2 ^ 63) (2 ^ 63 + 1920) 255 under_hundred million million 919) false
unfolding control_fit_lem candidate_fit_lem
age_past24 = refl

kept_most24 : Fits24 (kept_at 255 true) true
unfolding control_fit_lem candidate_fit_lem wait_fit_lem in_range of_bits le lt
kept_most24 = refl

kept_none24 : Fits24 (kept_at 0 false) false
unfolding control_fit_lem candidate_fit_lem wait_fit_lem in_range of_bits le lt
kept_none24 = refl

-- ---- the window and the ring: "cursors below 41 and 960"
abbrev Placed24 : ℕ → ℕ → Bool → Type 0
Placed24 windowCursor ringCursor answer = record_fit_lem 5 (cursors_at 24000 windowCursor ringCursor) ≡ answer

cursors_last24 : Placed24 40 959 true
unfolding fresh record_fit_lem halves_agree_lem control_fit_lem candidate_fit_lem wait_fit_lem all_below
cursors_last24 = refl

window_past24 : Placed24 41 959 false
unfolding fresh record_fit_lem halves_agree_lem all_below
window_past24 = refl

ring_past24 : Placed24 40 960 false
unfolding fresh record_fit_lem halves_agree_lem all_below
ring_past24 = refl

-- "41 samples, twice as in f)": the halves are places 0 to 40 and 41 to 81
abbrev sample24 : ℕ → SoftDemodulator
sample24 at = assembled 24000 (set (fresh 24000).filter_win at (pos 1)) 0 (fresh 24000).rx_win 0 (fresh 24000).control

first_differs24 : record_fit_lem 5 (sample24 0) ≡ false
unfolding fresh record_fit_lem halves_agree_lem all_below
first_differs24 = refl

last_differs24 : record_fit_lem 5 (sample24 81) ≡ false
unfolding fresh record_fit_lem halves_agree_lem all_below
last_differs24 = refl

sample_unused24 : record_fit_lem 5 (sample24 82) ≡ true
unfolding fresh record_fit_lem halves_agree_lem control_fit_lem candidate_fit_lem wait_fit_lem all_below
sample_unused24 = refl

-- the ring's values that a sample's search reads: 955, 950, .. 925; with a wait of 1 down to 5; that a reply's reads: 959, 954, .. 924
abbrev value24 : Control → ℕ → Float → SoftDemodulator
value24 = value_at 24000

sample_value_last24 : fit_for_sample_lem 5 (value24 (fresh 24000).control 925 million) ≡ true
unfolding fresh fit_for_sample_lem record_fit_lem halves_agree_lem control_fit_lem candidate_fit_lem wait_fit_lem all_below in_range of_bits le lt
sample_value_last24 = refl

sample_value_past24 : fit_for_sample_lem 5 (value24 (fresh 24000).control 925 past_million) ≡ false
unfolding fresh fit_for_sample_lem record_fit_lem halves_agree_lem control_fit_lem candidate_fit_lem wait_fit_lem all_below in_range of_bits le lt
sample_value_past24 = refl

sample_value_untested24 : fit_for_sample_lem 5 (value24 (fresh 24000).control 920 nan) ≡ true
unfolding fresh fit_for_sample_lem record_fit_lem halves_agree_lem control_fit_lem candidate_fit_lem wait_fit_lem all_below in_range of_bits le lt
sample_value_untested24 = refl

window_value_last24 : fit_for_sample_lem 5 (value24 (waiting 1) 5 million) ≡ true
unfolding fresh fit_for_sample_lem record_fit_lem halves_agree_lem control_fit_lem candidate_fit_lem wait_fit_lem all_below in_range of_bits le lt
window_value_last24 = refl

window_value_past24 : fit_for_sample_lem 5 (value24 (waiting 1) 5 past_million) ≡ false
unfolding fresh fit_for_sample_lem record_fit_lem halves_agree_lem control_fit_lem candidate_fit_lem wait_fit_lem all_below in_range of_bits le lt
window_value_past24 = refl

value_unused24 : fit_for_sample_lem 5 (value24 (waiting 1) 960 nan) ≡ true
unfolding fresh fit_for_sample_lem record_fit_lem halves_agree_lem control_fit_lem candidate_fit_lem wait_fit_lem all_below in_range of_bits le lt
value_unused24 = refl

reply_value_past24 : fit_for_reply_lem 5 (value24 (fresh 24000).control 924 past_million) ≡ false
unfolding fresh fit_for_reply_lem record_fit_lem halves_agree_lem control_fit_lem candidate_fit_lem wait_fit_lem all_below in_range of_bits le lt
reply_value_past24 = refl

reply_value_untested24 : fit_for_reply_lem 5 (value24 (fresh 24000).control 925 nan) ≡ true
unfolding fresh fit_for_reply_lem record_fit_lem halves_agree_lem control_fit_lem candidate_fit_lem wait_fit_lem all_below in_range of_bits le lt
reply_value_untested24 = refl

-- "any rate but the two": 1 more or less is none
rate_past : record_fit_lem 10 (cursors_at 48001 0 0) ≡ false
unfolding fresh record_fit_lem
rate_past = refl

rate_below : record_fit_lem 5 (cursors_at 23999 0 0) ≡ false
unfolding fresh record_fit_lem
rate_below = refl

-- The window's halves: a record is unfit for every call where they differ in one place, the first, a middle one or the last; and small instances of the laws of a store. Assumes nothing.
use mathlib.Core.Path.{◌≡◌, refl}
use mathlib.Core.Bool.{Bool, true, false}
use mathlib.Core.List.{[]}
use Prim.Native.Nat.{ℕ, ◌≤◌}
use native.Mathlib.Omega.{arith}
use lib.Dec.{lit<}
use lib.IntN.{pos, negsuc}
use lib.ListN.{length, get_or, set, length-replicate}
use Rattle.numbers.specs.Below.{all_below}
use Rattle.shaping.specs.Rate.{at48, window_places}
use Rattle.protocol.specs.Refusals.{bare}
use Rattle.search.specs.declared.Reply.TheVariants.{Accepted}
use Rattle.search.specs.Fit.{candidate_fit_lem, wait_fit_lem, control_fit_lem}
use Rattle.demodulator.specs.declared.SoftDemodulator.{SoftDemodulator}
use Rattle.demodulator.specs.Record.{fresh, assembled, view, window_after, stored}
use Rattle.demodulator.specs.Fit.{halves_agree_lem, record_fit_lem, fit_for_sample_lem, fit_for_reply_lem}
use Rattle.demodulator.specs.Calls.{refusal, refused, demodulated, answered, detected}
use Rattle.demodulator.proofs.Halves.{summed_older, summed_newest, stored_halves, stored_view}
use Rattle.demodulator.proofs.CallCases.{sample_unfit, reply_unfit, carrier_unfit}

-- ---- a fresh record but for one place of the window
abbrev with_sample : ℕ → SoftDemodulator
with_sample at = assembled 48000 (set (fresh 48000).filter_win at (pos 1)) 0 (fresh 48000).rx_win 0 (fresh 48000).control

abbrev agrees : ℕ → Bool → Type 0
agrees at answer = record_fit_lem 10 (with_sample at) ≡ answer

-- "a record whose two halves differ is unfit": the first place of either half, a middle one, and the last
first_differs : agrees 0 false
unfolding fresh record_fit_lem halves_agree_lem all_below
first_differs = refl

again_differs : agrees 81 false
unfolding fresh record_fit_lem halves_agree_lem all_below
again_differs = refl

middle_differs : agrees 40 false
unfolding fresh record_fit_lem halves_agree_lem all_below
middle_differs = refl

last_differs : agrees 161 false
unfolding fresh record_fit_lem halves_agree_lem all_below
last_differs = refl

-- the same sample at both places: fit
both_agree : record_fit_lem 10 (assembled 48000 (set (set (fresh 48000).filter_win 80 (negsuc 0)) 161 (negsuc 0)) 80 (fresh 48000).rx_win 0 (fresh 48000).control) ≡ true
unfolding fresh record_fit_lem halves_agree_lem control_fit_lem candidate_fit_lem wait_fit_lem all_below
both_agree = refl

-- every call is refused with 1
sample_refused : demodulated at48 (with_sample 161) (pos 1) [] ≡ refused 1 (with_sample 161) []
sample_refused = sample_unfit at48 (with_sample 161) (pos 1) [] refl (unfold fresh fit_for_sample_lem record_fit_lem halves_agree_lem all_below in refl)

reply_refused : answered 10 (with_sample 161) Accepted [] ≡ refused 1 (with_sample 161) []
reply_refused = reply_unfit 10 (with_sample 161) Accepted [] refl (unfold fresh fit_for_reply_lem record_fit_lem halves_agree_lem all_below in refl)

carrier_refused : detected 10 (with_sample 161) ≡ refusal (bare 1)
carrier_refused = carrier_unfit 10 (with_sample 161) refl last_differs

-- ---- a store at the last cursor, whose sample then lies before the next cursor, 0, and at the end
abbrev last : SoftDemodulator
last = assembled 48000 (fresh 48000).filter_win 80 (fresh 48000).rx_win 0 (fresh 48000).control

last_long : window_places 10 ≤ length last.filter_win
unfolding fresh
last_long = omega (arith, length-replicate 162 (pos 0))

last_agrees : halves_agree_lem 10 last.filter_win ≡ true
unfolding fresh halves_agree_lem all_below
last_agrees = refl

summed_older_meets : get_or (window_after 10 last (pos 1)) 81 (pos 0) ≡ view last 1
summed_older_meets = summed_older at48 last (pos 1) (lit< tt) 0 (lit< tt)

summed_newest_meets : get_or (window_after 10 last (pos 1)) 161 (pos 0) ≡ pos 1
summed_newest_meets = summed_newest at48 last (pos 1) (lit< tt) last_long 80 refl

stored_halves_meets : halves_agree_lem 10 (stored at48 last (pos 1)).filter_win ≡ true
stored_halves_meets = stored_halves at48 last (pos 1) (lit< tt) last_long last_agrees

stored_view_meets : view (stored at48 last (pos 1)) 80 ≡ get_or (window_after 10 last (pos 1)) 161 (pos 0)
stored_view_meets = stored_view at48 last (pos 1) (lit< tt) last_long last_agrees 80 (lit< tt)

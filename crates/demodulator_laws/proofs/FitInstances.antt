-- Small instances of the laws of a call that leaves a fit record, at a fresh record and at one that owes a reply: what the laws ask can be met. Assumes nothing.
use Rattle.std.specs.Prelude.{None}
use mathlib.Core.Path.{◌≡◌, refl, sym, ap, ◌∙◌}
use mathlib.Core.Logic.{◌⊎◌, inl, inr}
use mathlib.Core.Bool.{false}
use mathlib.Core.List.{[], ◌∷◌}
use Prim.Native.Nat.{ℕ, zero, suc, ◌≤◌}
use native.Mathlib.Omega.{arith}
use lib.Dec.{T, lit<, lit≤}
use lib.IntN.{pos}
use lib.ListN.{get_or, replicate, length-replicate, get_or-replicate}
use lib.Ieee.{nan, binary32, of_bits, lt, le}
use mir.Syntax.{w16}
use mir.Val.{SFits}
use Rattle.numbers.specs.Below.{all_below}
use Rattle.shaping.specs.Rate.{at48}
use Rattle.shaping.proofs.RateFacts.{facts48}
use Rattle.protocol.specs.declared.Kind.TheVariants.{Bert}
use Rattle.decode.specs.Correlator.{in_range}
use Rattle.search.specs.declared.Reply.TheVariants.{Rejected}
use Rattle.search.specs.Fit.{candidate_fit_lem, wait_fit_lem, control_fit_lem}
use Rattle.demodulator.specs.declared.SoftDemodulator.{SoftDemodulator}
use Rattle.demodulator.specs.Record.{fresh, back, window_after, filtered_after, stored, with_control}
use Rattle.demodulator.specs.Fit.{halves_agree_lem, record_fit_lem, fit_for_sample_lem, fit_for_reply_lem}
use Rattle.demodulator.specs.Calls.{Paper, nothing, done, refusal, Left, demodulated, answered}
use Rattle.demodulator.specs.Feed.{fed_into}
use Rattle.demodulator.proofs.StepInstances.{fresh_for_sample, room}
use Rattle.demodulator_laws.proofs.ExampleBurst.{held_at}
use Rattle.demodulator_laws.proofs.StoredFits.{Rings, window_fits, new_in_range, stored_eight}
use Rattle.demodulator_laws.proofs.FitAgain.{InRange, Fits, Old, Aged, Uncounted, Accepted, Given, back_in_range, given, stored_in_range, fit_again, reply_fit_again}
use Rattle.demodulator_laws.proofs.FedFits.{Usable, feed_fit_again}
use Rattle.demodulator_laws.proofs.RecordInstances.{fresh_for_reply}
use Rattle.demodulator_laws.proofs.CallInstances.{fresh_answer, debtor, reply_taken_meets}

-- ---- a stored sample
pub one_fits : SFits w16 (pos 1)
one_fits = record { sfits = lit< tt }

same_all : {A : Type 0} (n i : ℕ) (x : A) → get_or (replicate n x) i x ≡ x
same_all zero i x = refl
same_all (suc n) zero x = refl
same_all (suc n) (suc i) x = same_all n i x

-- at either rate the places are enough
rings_at : (p rate : ℕ) → p ≤ 10 → Rings p (fresh rate).filter_win (fresh rate).rx_win
unfolding fresh
rings_at p rate few = record { samples = λ i. rw (same_all 162 i (pos 0)) (record { sfits = lit< tt }); window_places_lem = omega (arith, length-replicate 162 (pos 0)); places = omega (arith, length-replicate 1920 (of_bits binary32 0)) }

pub fresh_rings : Rings 10 (fresh 48000).filter_win (fresh 48000).rx_win
fresh_rings = rings_at 10 48000 (lit≤ tt)

window_fits_meets : SFits w16 (get_or (window_after 10 (fresh 48000) (pos 1)) 81 (pos 0))
window_fits_meets = window_fits at48 facts48 (fresh 48000) (pos 1) fresh_rings one_fits 81

new_in_range_meets : T (in_range (filtered_after at48 (fresh 48000) (pos 1)))
new_in_range_meets = new_in_range at48 facts48 (fresh 48000) (pos 1) fresh_rings one_fits

stored_eight_meets : T (in_range (back 10 (stored at48 (fresh 48000) (pos 1)) 70))
stored_eight_meets = stored_eight at48 facts48 (fresh 48000) (pos 1) fresh_rings one_fits fresh_for_sample 0 (lit< tt)

-- ---- a fresh record
silent_in_range : T (in_range (of_bits binary32 0))
unfolding in_range of_bits le lt
silent_in_range = tt

pub in_range_at : (p rate : ℕ) → p ≤ 10 → InRange p (fresh rate)
unfolding fresh
in_range_at p rate few = record { rings = rings_at p rate few; values = λ i l. rw (get_or-replicate 1920 i (of_bits binary32 0) nan (omega arith)) silent_in_range }

fresh_in_range : InRange 10 (fresh 48000)
fresh_in_range = in_range_at 10 48000 (lit≤ tt)

-- ---- a fit record left fit
pub quiet_accepted : (answer : Paper) → answer ≡ nothing → Accepted answer
quiet_accepted answer q n e = let other : nothing ≡ refusal n = sym q ∙ e in let z : ◌≡◌ {A = ℕ} 0 1 = cc in omega arith

fresh_accepted : Accepted (demodulated at48 (fresh 48000) (pos 1) room).answer
fresh_accepted = quiet_accepted _ fresh_answer

given_meets : Given 10 (fresh 48000) room
given_meets = given at48 (fresh 48000) (pos 1) room fresh_accepted

stored_in_range_meets : InRange 10 (stored at48 (fresh 48000) (pos 1))
unfolding stored
stored_in_range_meets = stored_in_range at48 facts48 (fresh 48000) (pos 1) one_fits fresh_in_range (fresh 48000).control

fit_again_meets : InRange 10 (demodulated at48 (fresh 48000) (pos 1) room).demodulator × (Fits 10 (demodulated at48 (fresh 48000) (pos 1) room).demodulator ⊎ Aged 10 (fresh 48000) (demodulated at48 (fresh 48000) (pos 1) room).demodulator)
fit_again_meets = fit_again at48 facts48 (fresh 48000) (pos 1) one_fits fresh_in_range room fresh_accepted

debtor_in_range : InRange 10 debtor
debtor_in_range = record { rings = fresh_in_range.rings; values = fresh_in_range.values }

debtor_accepted : Accepted (answered 10 debtor Rejected []).answer
debtor_accepted n e = let other : done ≡ refusal n = sym (ap (λ (left : Left). left.answer) reply_taken_meets) ∙ e in let z : ◌≡◌ {A = ℕ} 0 1 = cc in omega arith

back_in_range_meets : T (in_range (back 10 debtor 1919))
back_in_range_meets = back_in_range 10 (lit< tt) debtor debtor_in_range 1919

reply_fit_again_meets : InRange 10 (answered 10 debtor Rejected []).demodulator × (Fits 10 (answered 10 debtor Rejected []).demodulator ⊎ Uncounted 10 debtor (answered 10 debtor Rejected []).demodulator)
reply_fit_again_meets = reply_fit_again 10 (lit≤ tt) debtor Rejected [] debtor_in_range debtor_accepted

-- ---- a stretch
pub small : (i : ℕ) → SFits w16 (get_or (pos 1 ∷ []) i (pos 0))
small zero = one_fits
small (suc i) = record { sfits = lit< tt }

feed_fit_again_meets : Usable 10 (fed_into at48 (fresh 48000) (pos 1 ∷ []) room).state
feed_fit_again_meets = feed_fit_again at48 facts48 (pos 1 ∷ []) small (fresh 48000) room (record { in_range_lem = fresh_in_range; fit = inl (record { for_sample = fresh_for_sample; for_reply = fresh_for_reply }) })

-- one whose age is 255
abbrev old : SoftDemodulator
old = with_control (record { candidate = held_at Bert 255; wait = None; dcd = None; owed = false; sample = 1 }) (fresh 48000)

old_is : Old 10 old
unfolding fresh fit_for_sample_lem fit_for_reply_lem record_fit_lem halves_agree_lem control_fit_lem candidate_fit_lem wait_fit_lem all_below in_range of_bits le lt
old_is = record { is = refl; else_fit = record { for_sample = refl; for_reply = refl } }

feed_old_meets : Usable 10 (fed_into at48 old (pos 1 ∷ []) room).state
feed_old_meets = feed_fit_again at48 facts48 (pos 1 ∷ []) small old room (record { in_range_lem = record { rings = fresh_in_range.rings; values = fresh_in_range.values }; fit = inr old_is })

-- Document 02 g): "It must be equal to the first receiver fed sample by sample, for all recordings and replies". Assumes nothing.
use mathlib.Core.Path.{◌≡◌, refl, sym, ap, ◌∙◌}
use mathlib.Core.Bool.{Bool, true, not}
use mathlib.Core.Logic.{⊎_elim}
use mathlib.Core.List.{List, [], map}
use Prim.Native.Nat.{ℕ}
use lib.IntN.{ℤ}
use lib.Ieee.{Float}
use Rattle.machine.specs.Runs.{answers}
use Rattle.shaping.specs.Rate.{Rate, at48, at24, rate_fit, rate_of, samples_in_lem}
use Rattle.shaping.proofs.RateFacts.{Facts, facts48, facts24, two_rates}
use Rattle.search.specs.declared.Reply.{Reply}
use Rattle.search.proofs.AgeInPass.{by_test}
use Rattle.demodulator.specs.declared.SoftDemodulator.{SoftDemodulator}
use Rattle.demodulator.specs.Record.{fresh}
use Rattle.demodulator.specs.Fit.{fit_for_reply_lem}
use Rattle.demodulator.specs.Calls.{Left, answered}
use Rattle.demodulator.specs.Singles.{Single, reply, said_by, left_at}
use Rattle.demodulator_run.specs.Rules.{History, After, start, single, single_rules, said_all}
use Rattle.demodulator_run.specs.Rules.{answered as answeredByRules}
use Rattle.demodulator_run.specs.Run.{fresh_at, single_receiver, answers_to}
use Rattle.demodulator_run.specs.Stretch.{Sixteen}
use Rattle.demodulator_run.proofs.Whole.{stands_start}
use Rattle.demodulator_run.proofs.SinglesRun.{follows, singles_run}
use Rattle.plain.specs.List.{offer_then, list_from, calls_from, entry_of, entries_in}
use Rattle.plain.specs.Rest.{reply_of}
use Rattle.plain.specs.Listing.{first_list, rules_list}
use Rattle.plain.proofs.CallList.{list_answers, calls_given, same_calls}

-- ---- a reply brings no offer
silent_rules : (table : List Float) (p : ℕ) (h : History) (r : Reply) → entry_of ((single_rules table p).says h (reply r)) ≡ []
unfolding single answeredByRules offer_then
silent_rules table p h r = by_test (λ (a : After). entry_of a.said ≡ []) (not h.control.owed) _ _ (λ _. refl) (λ _. refl)

silent_record : (m : SoftDemodulator) (r : Reply) → entry_of (single_receiver.says m (reply r)) ≡ []
unfolding left_at answered offer_then
silent_record m r =
    by_test (λ (l : Left). entry_of (said_by l) ≡ []) (not (fit_for_reply_lem (samples_in_lem m.rate) m)) _ _ (λ _. refl)
    (λ _. by_test (λ (l : Left). entry_of (said_by l) ≡ []) (not m.control.owed) _ _ (λ _. refl) (λ _. refl))

-- ---- the calls by which the first receiver's list is made
abbrev pub first_calls : ℕ → List ℤ → List Bool → List Single
first_calls rate xs replies = calls_from single_receiver (fresh rate) xs (map reply_of replies)

-- its list is the offers among its answers to them
pub first_answers : (rate : ℕ) (xs : List ℤ) (replies : List Bool)
    → first_list rate xs replies ≡ entries_in (answers single_receiver (fresh rate) (first_calls rate xs replies))
unfolding first_list
first_answers rate xs replies = list_answers single_receiver silent_record xs (map reply_of replies) (fresh rate)

module _ (R : Rate) (F : Facts R) (xs : List ℤ) (f : Sixteen xs) (replies : List Bool) where
  abbrev rs : List Reply
  rs = map reply_of replies

  abbrev cs : List Single
  cs = calls_from single_receiver (fresh_at R) xs rs

  -- the record's answers are those of the rules to their own calls
  pub answers_agree : answers_to R cs ≡ said_all R.taps R.p (calls_from (single_rules R.taps R.p) start xs rs)
  answers_agree =
      (singles_run R F cs (calls_given single_receiver xs f rs (fresh_at R))).1
      ∙ ap (said_all R.taps R.p) (same_calls (follows R F) xs f rs (fresh_at R) start (stands_start R F))

  same_list : rules_list R.taps R.p xs replies ≡ list_from single_receiver (fresh_at R) xs rs
  unfolding rules_list
  same_list =
      list_answers (single_rules R.taps R.p) (silent_rules R.taps R.p) xs rs start
      ∙ ap entries_in (sym answers_agree)
      ∙ sym (list_answers single_receiver silent_record xs rs (fresh_at R))

-- "equal to the first receiver fed sample by sample, for all recordings and replies": what is worked out from the rules is the list of a fresh record of the rate, which is given each
-- sample, and after each offer its reply, up to the first offer that has none. A recording's samples are i16s.
pub slow_equals_first : (rate : ℕ) → rate_fit rate ≡ true → (xs : List ℤ) → Sixteen xs → (replies : List Bool)
    → rules_list (rate_of rate).taps (rate_of rate).p xs replies ≡ first_list rate xs replies
unfolding first_list
slow_equals_first rate fit xs f replies =
    ⊎_elim
    (λ (e : rate ≡ 48000). rw e (same_list at48 facts48 xs f replies))
    (λ (e : rate ≡ 24000). rw e (same_list at24 facts24 xs f replies))
    (two_rates rate fit)

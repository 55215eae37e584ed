-- Listening to the record, from the first sample on, and to a record that refuses each sample. Assumes nothing.
use mathlib.Core.Path.{◌≡◌, refl, sym, ap, ◌∙◌}
use mathlib.Core.List.{List, [], ◌∷◌, ◌++◌, map, flat_map}
use Prim.Native.Nat.{ℕ}
use lib.IntN.{ℤ}
use Rattle.machine.specs.Runs.{run, answers}
use Rattle.shaping.specs.Rate.{rate_of}
use Rattle.demodulator.specs.declared.SoftDemodulator.{SoftDemodulator}
use Rattle.demodulator.specs.Calls.{Left, refused, demodulated}
use Rattle.demodulator.specs.Singles.{sample, blank, left_at}
use Rattle.demodulator_run.proofs.Refused.{rate_kept}
use Rattle.listening.specs.Listener.{Listed, listed_of, reply_to, listener, offers, own_record}
use Rattle.listening.specs.Verdict.{verdict}

-- ---- the record, by the receive program's rule
abbrev pub record_offers : SoftDemodulator → List ℤ → List Listed
record_offers = offers own_record verdict

abbrev pub heard_all : SoftDemodulator → List ℤ → SoftDemodulator
heard_all = run (listener own_record verdict)

-- ---- the first sample: what it comes to at the rate that the record says, and the record after the reply to its offer
abbrev pub left_by_sample : SoftDemodulator → ℤ → Left
left_by_sample m x = demodulated (rate_of m.rate) m x blank

abbrev pub after_reply : Left → SoftDemodulator
after_reply l = run own_record l.demodulator (map reply_to (listed_of verdict l.answer l.room))

module _ (m : SoftDemodulator) (x : ℤ) (l : Left) (e : left_by_sample m x ≡ l) where
  pub offers_at : (xs : List ℤ) → record_offers m (x ∷ xs) ≡ listed_of verdict l.answer l.room ++ record_offers (after_reply l) xs
  unfolding run answers left_at flat_map
  offers_at xs = ap (λ (k : Left). listed_of verdict k.answer k.room ++ record_offers (after_reply k) xs) e

  pub run_at : (xs : List ℤ) → heard_all m (x ∷ xs) ≡ heard_all (after_reply l) xs
  unfolding run left_at
  run_at xs = ap (λ (k : Left). heard_all (after_reply k) xs) e

  -- the rest goes on at the same rate
  pub same_rate : l.demodulator.rate ≡ m.rate
  unfolding left_at
  same_rate = ap (λ (k : Left). k.demodulator.rate) (sym e) ∙ rate_kept (rate_of m.rate) m (sample x blank)

-- ---- a record that refuses each sample
abbrev pub RefusesAll : ℕ → SoftDemodulator → Type 0
RefusesAll number m = (y : ℤ) → left_by_sample m y ≡ refused number m blank

abbrev pub Stuck : SoftDemodulator → Type 0
Stuck m = (number : ℕ) × RefusesAll number m

module _ (number : ℕ) (m : SoftDemodulator) (s : RefusesAll number m) where
  pub offers_stuck : (xs : List ℤ) → record_offers m xs ≡ []
  unfolding run answers listed_of flat_map
  offers_stuck [] = refl
  offers_stuck (x ∷ xs) = offers_at m x (refused number m blank) (s x) xs ∙ offers_stuck xs

  pub run_stuck : (xs : List ℤ) → heard_all m xs ≡ m
  unfolding run listed_of
  run_stuck [] = refl
  run_stuck (x ∷ xs) = run_at m x (refused number m blank) (s x) xs ∙ run_stuck xs

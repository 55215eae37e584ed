-- An offer is due, and its candidate was taken, no later than the sample that brings it. By the rules, for samples of 16 bits. Assumes nothing.
use Rattle.std.specs.Prelude.{Option, Some, None}
use mathlib.Core.Path.{◌≡◌, subst}
use mathlib.Core.Bool.{Bool, true, false, cond}
use mathlib.Core.List.{List, [], ◌∷◌, ◌++◌}
use Prim.Native.Nat.{ℕ, ◌+◌, ◌^◌, ◌≤◌}
use native.Mathlib.Omega.{arith}
use lib.Dec.{T, ltb, leb, leb→le}
use lib.IntN.{ℤ}
use lib.ListN.{length}
use lib.Ieee.{Float}
use lib.Ieee.Fits.{and_r}
use mir.Syntax.{w16}
use mir.Val.{SFits}
use Rattle.machine.specs.Runs.{Each}
use Rattle.shaping.specs.Rate.{Rate}
use Rattle.shaping.proofs.RateFacts.{Facts}
use Rattle.search.specs.declared.Candidate.{Candidate}
use Rattle.search.specs.declared.Waiting.{Waiting}
use Rattle.search.specs.declared.Control.{Control}
use Rattle.search.specs.declared.Turn.{Turn}
use Rattle.search.specs.TakenBurst.{held_in}
use Rattle.search.specs.Turn.{Outcome, quiet, offer, counted, freed, due_turn, waited_turn, comes_to, sampled}
use Rattle.search.specs.Fit.{taken_fit_lem}
use Rattle.search.proofs.AgeInPass.{by_test}
use Rattle.search.proofs.HeldOrNot.{HeldOrNot, not_held, is_held, held_or_not}
use Rattle.search.proofs.Clauses.{clauses}
use Rattle.demodulator.specs.declared.SoftDemodulator.{SoftDemodulator}
use Rattle.demodulator.specs.Spans.{eight}
use Rattle.demodulator_run.specs.Filter.{ago}
use Rattle.demodulator_run.specs.Rules.{History, start}
use Rattle.demodulator_run.specs.Run.{fresh_at}
use Rattle.demodulator_run.proofs.Whole.{Stands, stands_start}
use Rattle.listening.specs.Listener.{Listed}
use Rattle.listening.specs.Verdict.{verdict}
use Rattle.listening.proofs.Agreement.{listens}
use Rattle.listening.proofs.OwedReply.{between_start}
use Rattle.replay.specs.FullRun.{all_offers, first_from}
use Rattle.replay.proofs.EachOffer.{offer_here, each_offer}

pub record Bounded (n : ℕ) (o : Listed) : Type 0 where
  pub due : o.due.sample ≤ n
  pub taken : o.due.taken_at ≤ n

-- ---- the candidate of a sample's offer, by the fitness of what was held
module _ (p : ℕ) (v : ℕ → Float) (n : ℕ) where
  abbrev TakenBy : Outcome → Type 0
  TakenBy (quiet c) = Unit {0}
  TakenBy (offer shown c) = shown.taken_at ≤ n

  due_taken : {candidate : Candidate} → HeldOrNot candidate → T (taken_fit_lem n candidate) → (w : Waiting) (c : Control)
      → TakenBy (comes_to p v (due_turn (held_in candidate) w c))
  unfolding due_turn
  due_taken not_held t w c = tt
  due_taken (is_held u) t w c = leb→le u.taken_at n (and_r (leb 1 u.taken_at) (leb u.taken_at n) t)

  waited_taken : (wait : Option Waiting) (c : Control) → T (taken_fit_lem n c.candidate) → TakenBy (comes_to p v (waited_turn wait c))
  unfolding waited_turn
  waited_taken None c t = tt
  waited_taken (Some w) c t =
      by_test (λ (o : Turn). TakenBy (comes_to p v o)) (ltb 1 w.left) _ _ (λ _. tt) (λ _. due_taken (held_or_not c.candidate) t w (freed c))

  sampled_taken : (c : Control) → T (taken_fit_lem n c.candidate) → TakenBy (sampled p v c)
  unfolding sampled
  sampled_taken c t = waited_taken c.wait (counted c) t

-- ---- a list of samples from a fresh start
module _ (R : Rate) (F : Facts R) where
  -- some record that represents it is fit
  abbrev Stood : History → Type 0
  Stood h = (m : SoftDemodulator) × Stands R F m h

  pub offers_bounded : (xs : List ℤ) → Each (SFits w16) xs → length xs ≤ 2 ^ 63 → Each (Bounded (0 + length xs)) (all_offers R xs)
  offers_bounded xs g few =
      each_offer R verdict Stood (SFits w16) Bounded (λ h x g s. (_, (listens R F verdict).related s.0 h s.1 x g))
      (λ h x s. offer_here R verdict (Bounded (h.control.sample + 1)) h x (λ shown c e at symbols.
      let n = h.control.sample in
      let v = eight R.p (ago R.taps R.p (h.samples ++ (x ∷ []))) in
      let fit = (clauses R.p h.control s.1.fit.fit).taken in
      let t : shown.taken_at ≤ n = subst (TakenBy R.p v n) e (sampled_taken R.p v n h.control fit) in
      let due : c.sample ≤ n + 1 = omega arith in
      let taken : shown.taken_at ≤ n + 1 = omega arith in
      record { due = due; taken = taken }))
      (λ n k l o b. let u = b.due in let w = b.taken in record { due = omega arith; taken = omega arith })
      xs g start (fresh_at R, stands_start R F) 0 between_start (omega arith)

pub found_bounded : (a n : ℕ) (os : List Listed) → Each (Bounded n) os → (o : Listed) → first_from a os ≡ Some o → Bounded n o
unfolding first_from Each
found_bounded a n [] e o f = let z : ◌≡◌ {A = ℕ} 0 1 = cc in absurd (omega arith)
found_bounded a n (p ∷ os) e o f = go (ltb p.due.sample a) f (λ g. found_bounded a n os e.1 o g)
  where
    go : (t : Bool) → cond t (first_from a os) (Some p) ≡ Some o → (first_from a os ≡ Some o → Bounded n o) → Bounded n o
    go true f rest = rest f
    go false f rest = let same : p ≡ o = cc in subst (Bounded n) same e.0

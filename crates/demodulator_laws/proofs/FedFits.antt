-- A stretch of samples in one call leaves a record as a single sample does: its ring's values in range, and fit for the next call, an age of 255 apart. Assumes nothing.
use mathlib.Core.Path.{◌≡◌, refl, ap}
use mathlib.Core.Logic.{◌⊎◌, inl, inr}
use mathlib.Core.List.{List, [], ◌∷◌}
use Prim.Native.Nat.{ℕ, suc, ◌+◌}
use native.Mathlib.Omega.{arith}
use lib.IntN.{ℤ, pos}
use lib.ListN.{get_or}
use lib.Ieee.{Float}
use mir.Syntax.{w16}
use mir.Val.{SFits}
use Rattle.shaping.specs.Rate.{Rate}
use Rattle.shaping.proofs.RateFacts.{Facts}
use Rattle.search.specs.Turn.{Outcome, quiet, offer, sampled}
use Rattle.demodulator.specs.declared.SoftDemodulator.{SoftDemodulator}
use Rattle.demodulator.specs.Spans.{eight}
use Rattle.demodulator.specs.Record.{back, stored}
use Rattle.demodulator.specs.Calls.{Left, finished, demodulated}
use Rattle.demodulator.specs.Feed.{Stretch, fed_from, fed, fed_into}
use Rattle.demodulator.proofs.CallCases.{sample_taken}
use Rattle.demodulator.proofs.FeedSteps.{goes_on, rest_from}
use Rattle.demodulator_laws.proofs.FitAgain.{InRange, Fits, Old, Accepted, Given, given_or_refused, fit_again}

-- ---- the statement's words
pub record Usable (p : ℕ) (m : SoftDemodulator) : Type 0 where
  pub in_range_lem : InRange p m
  pub fit : Fits p m ⊎ Old p m

-- ---- a sample
finished_accepted : (p : ℕ) (m : SoftDemodulator) (room : List Float) (o : Outcome) → Accepted (finished p m room o).answer
finished_accepted p m room (quiet c) n e = let z : ◌≡◌ {A = ℕ} 0 1 = cc in omega arith
finished_accepted p m room (offer shown c) n e = let z : ◌≡◌ {A = ℕ} 0 1 = cc in omega arith

module _ (R : Rate) (F : Facts R) where
  module _ (m : SoftDemodulator) (x : ℤ) (room : List Float) where
    given_accepted : Given R.p m room → Accepted (demodulated R m x room).answer
    given_accepted g =
        let o = sampled R.p (eight R.p (back R.p (stored R m x))) m.control in
        rw (sample_taken R m x room g.fit g.free g.enough g.count o refl) (finished_accepted R.p (stored R m x) room o)

    -- a refused sample leaves the record
    sample_usable : SFits w16 x → Usable R.p m → Usable R.p (demodulated R m x room).demodulator
    sample_usable fits u =
        elim (given_or_refused R m x room) [
          | inr r ↦ rw (ap (λ (l : Left). l.demodulator) r.call) u
          | inl g ↦
              let again = fit_again R F m x fits u.in_range_lem room (given_accepted g) in
              record { in_range_lem = again.0; fit = elim again.1 [ inl f ↦ inl f | inr a ↦ inr a.old ] }
        ]

  -- ---- the stretch
  rest_usable : (xs : List ℤ) → ((i : ℕ) → SFits w16 (get_or xs i (pos 0))) → (n : ℕ) (m : SoftDemodulator) (room : List Float) → Usable R.p m → Usable R.p (rest_from R n m xs room).state
  unfolding fed_from
  rest_usable [] small n m room u = u
  rest_usable (x ∷ xs) small n m room u =
      let l = demodulated R m x room in
      let after = sample_usable m x room (small 0) u in
      goes_on (λ (t : Stretch SoftDemodulator). Usable R.p t.state) l.answer _ _ _ u after (rest_usable xs (λ i. small (suc i)) (n + 1) l.demodulator l.room after)

  pub feed_fit_again : (xs : List ℤ) → ((i : ℕ) → SFits w16 (get_or xs i (pos 0))) → (m : SoftDemodulator) (room : List Float) → Usable R.p m → Usable R.p (fed_into R m xs room).state
  unfolding fed
  feed_fit_again [] small m room u = u
  feed_fit_again (x ∷ xs) small m room u = rest_usable (x ∷ xs) small 0 m room u

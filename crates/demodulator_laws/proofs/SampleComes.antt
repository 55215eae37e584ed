-- What one sample comes to: nothing, and the room as it was; an offer; or a refusal, which each other sample would get too. Assumes nothing.
use mathlib.Core.Path.{◌≡◌, refl, ap}
use mathlib.Core.Bool.{Bool, true, false, not, cond}
use mathlib.Core.List.{List, ◌∷◌}
use Prim.Native.Nat.{ℕ, ◌+◌, ◌^◌}
use lib.Dec.{eqb, ltb}
use lib.IntN.{ℤ}
use lib.ListN.{length}
use lib.Ieee.{Float}
use Rattle.shaping.specs.Rate.{Rate}
use Rattle.protocol.specs.Refusals.{bare}
use Rattle.search.specs.Turn.{Outcome, quiet, offer, sampled}
use Rattle.demodulator.specs.declared.SoftDemodulator.{SoftDemodulator}
use Rattle.demodulator.specs.declared.Offer.{Offer}
use Rattle.demodulator.specs.Spans.{eight}
use Rattle.demodulator.specs.Record.{back, stored}
use Rattle.demodulator.specs.Fit.{unfit_number, fit_for_sample_lem}
use Rattle.demodulator.specs.Calls.{refusal, nothing, frame, Left, refused, finished, admitted_by, demodulated}
use Rattle.demodulator.specs.Feed.{Stretch, stops_before, goes_on_lem, fed_from}
use Rattle.demodulator.proofs.FeedSteps.{rest_from}

pub data Comes (m : SoftDemodulator) (room : List Float) (all : ℤ → Left) (left : Left) : Type 0 where
  silent : (m' : SoftDemodulator) → left ≡ record { answer = nothing; demodulator = m'; room = room } → Comes m room all left
  offering : (o : Offer) (m' : SoftDemodulator) (window : List Float) → left ≡ record { answer = frame o; demodulator = m'; room = window } → Comes m room all left
  stuck : (number : ℕ) → left ≡ refused number m room → ((y : ℤ) → all y ≡ refused number m room) → Comes m room all left

-- a test that does not depend on the sample
by_both : (m : SoftDemodulator) (room : List Float) (t : Bool) (number : ℕ) (rest : ℤ → Left) (x : ℤ) → Comes m room rest (rest x)
    → Comes m room (λ (y : ℤ). cond t (refused number m room) (rest y)) (cond t (refused number m room) (rest x))
by_both m room true number rest x c = stuck number refl (λ y. refl)
by_both m room false number rest x c = c

module _ (R : Rate) where
  finished_comes : (m n : SoftDemodulator) (room : List Float) (all : ℤ → Left) (o : Outcome) → Comes m room all (finished R.p n room o)
  finished_comes m n room all (quiet c) = silent _ refl
  finished_comes m n room all (offer shown c) = offering _ _ _ refl

  pub comes : (m : SoftDemodulator) (x : ℤ) (room : List Float) → Comes m room (λ (y : ℤ). demodulated R m y room) (demodulated R m x room)
  unfolding demodulated admitted_by
  comes m x room =
      let after : ℤ → Left = λ (y : ℤ). finished R.p (stored R m y) room (sampled R.p (eight R.p (back R.p (stored R m y))) m.control) in
      let counted : ℤ → Left = λ (y : ℤ). cond (eqb m.control.sample (2 ^ 63)) (refused 5 m room) (after y) in
      let roomy : ℤ → Left = λ (y : ℤ). cond (ltb (length room) 192) (refused 4 m room) (counted y) in
      let free : ℤ → Left = λ (y : ℤ). cond m.control.owed (refused 2 m room) (roomy y) in
      by_both m room (not (fit_for_sample_lem R.p m)) (unfit_number m) free x
      (by_both m room m.control.owed 2 roomy x
      (by_both m room (ltb (length room) 192) 4 counted x
      (by_both m room (eqb m.control.sample (2 ^ 63)) 5 after x
      (finished_comes m (stored R m x) room after (sampled R.p (eight R.p (back R.p (stored R m x))) m.control)))))

  -- ---- and the stretch that it begins
  module _ (m : SoftDemodulator) (x : ℤ) (xs : List ℤ) (room : List Float) (n : ℕ) where
    abbrev turned : Left → Stretch SoftDemodulator
    turned l =
        goes_on_lem l.answer (stops_before l.answer n m room) (record { answer = l.answer; fed = n + 1; state = l.demodulator; room = l.room }) (rest_from R (n + 1) l.demodulator xs l.room)

    pub fed_silent : (m' : SoftDemodulator) → demodulated R m x room ≡ record { answer = nothing; demodulator = m'; room = room } → rest_from R n m (x ∷ xs) room ≡ rest_from R (n + 1) m' xs room
    unfolding fed_from goes_on_lem
    fed_silent m' e = ap turned e

    pub fed_offering : (o : Offer) (m' : SoftDemodulator) (window : List Float) → demodulated R m x room ≡ record { answer = frame o; demodulator = m'; room = window }
        → rest_from R n m (x ∷ xs) room ≡ record { answer = frame o; fed = n + 1; state = m'; room = window }
    unfolding fed_from goes_on_lem
    fed_offering o m' window e = ap turned e

    pub fed_stuck : (number : ℕ) → demodulated R m x room ≡ refused number m room → rest_from R n m (x ∷ xs) room ≡ stops_before (refusal (bare number)) n m room
    unfolding fed_from goes_on_lem
    fed_stuck number e = ap turned e

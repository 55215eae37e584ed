-- No call changes the rate that a record says, a stretch among them: at every rate, so at its own. Assumes nothing.
use mathlib.Core.Path.{◌≡◌, refl, ap, ◌∙◌}
use mathlib.Core.List.{List, [], ◌∷◌}
use Prim.Native.Nat.{ℕ, ◌+◌}
use lib.IntN.{ℤ}
use lib.Ieee.{Float}
use Rattle.shaping.specs.Rate.{Rate, rate_of, per_second}
use Rattle.shaping.proofs.RateFacts.{Facts, own_rate}
use Rattle.demodulator.specs.declared.SoftDemodulator.{SoftDemodulator}
use Rattle.demodulator.specs.Calls.{demodulated}
use Rattle.demodulator.specs.Feed.{Stretch, fed_from, fed}
use Rattle.demodulator.proofs.FeedSteps.{goes_on, rest_from}
use Rattle.demodulator_run.specs.Rules.{sample}
use Rattle.demodulator_run.specs.Run.{left_at}
use Rattle.demodulator_run.specs.Calls.{Call, one, stretch, record_next}
use Rattle.demodulator_run.proofs.Refused.{rate_kept}

-- a record that says a rate is called at it
pub own : (R : Rate) → Facts R → (m : SoftDemodulator) → m.rate ≡ per_second R.p → rate_of m.rate ≡ R
own R F m e = ap rate_of e ∙ own_rate R F

module _ (R : Rate) where
  pub sample_rate : (m : SoftDemodulator) (x : ℤ) (room : List Float) → (demodulated R m x room).demodulator.rate ≡ m.rate
  unfolding left_at
  sample_rate m x room = rate_kept R m (sample x room)

  rest_rate : (xs : List ℤ) (n : ℕ) (m : SoftDemodulator) (room : List Float) → (rest_from R n m xs room).state.rate ≡ m.rate
  unfolding fed_from
  rest_rate [] n m room = refl
  rest_rate (x ∷ xs) n m room =
      let l = demodulated R m x room in
      let kept = sample_rate m x room in
      goes_on (λ (t : Stretch SoftDemodulator). t.state.rate ≡ m.rate) l.answer _ _ (rest_from R (n + 1) l.demodulator xs l.room) refl kept
      (rest_rate xs (n + 1) l.demodulator l.room ∙ kept)

  pub call_rate : (m : SoftDemodulator) (c : Call) → (record_next R m c).rate ≡ m.rate
  unfolding record_next fed
  call_rate m (one c) = rate_kept R m c
  call_rate m (stretch [] room) = refl
  call_rate m (stretch (x ∷ xs) room) = rest_rate (x ∷ xs) 0 m room

-- A record at the rate that it says: every admitted call leaves a fit one, an age of 255 and a count of 0 apart.
-- One statement over the rate, opened twice. Assumes nothing.
use mathlib.Core.Path.{◌≡◌, sym, subst}
use mathlib.Core.Logic.{◌⊎◌}
use mathlib.Core.Bool.{true}
use mathlib.Core.List.{List}
use Prim.Native.Nat.{ℕ}
use lib.IntN.{ℤ, pos}
use lib.ListN.{get_or}
use lib.Ieee.{Float}
use mir.Syntax.{w16}
use mir.Val.{SFits}
use Rattle.shaping.specs.Rate.{Rate, at48, at24, rate_fit, samples_in_lem, rate_of}
use Rattle.shaping.proofs.RateFacts.{Facts, rate_facts}
use Rattle.search.specs.declared.Reply.{Reply}
use Rattle.demodulator.specs.declared.SoftDemodulator.{SoftDemodulator}
use Rattle.demodulator.specs.Calls.{demodulated, answered}
use Rattle.demodulator.specs.Feed.{fed_into}
use Rattle.demodulator_laws.proofs.FitAgain.{InRange, Fits, Old, Aged, Uncounted, Accepted, fit_again, reply_fit_again}
use Rattle.demodulator_laws.proofs.FedFits.{Usable, feed_fit_again}

pub record FitAgain (R : Rate) (m : SoftDemodulator) : Type 0 where
  pub sample : (x : ℤ) → SFits w16 x → (room : List Float) → Accepted (demodulated R m x room).answer
      → InRange R.p (demodulated R m x room).demodulator × (Fits R.p (demodulated R m x room).demodulator ⊎ Aged R.p m (demodulated R m x room).demodulator)
  pub reply : (r : Reply) (room : List Float) → Accepted (answered R.p m r room).answer
      → InRange R.p (answered R.p m r room).demodulator × (Fits R.p (answered R.p m r room).demodulator ⊎ Uncounted R.p m (answered R.p m r room).demodulator)
  -- refused or not
  pub stretch : (xs : List ℤ) → ((i : ℕ) → SFits w16 (get_or xs i (pos 0))) → (room : List Float)
      → Fits R.p m ⊎ Old R.p m → Usable R.p (fed_into R m xs room).state

fit_again_at : (R : Rate) → Facts R → (m : SoftDemodulator) → InRange R.p m → FitAgain R m
fit_again_at R F m in_range_lem = record {
  sample = λ x small room accepted. fit_again R F m x small in_range_lem room accepted;
  reply = λ r room accepted. reply_fit_again R.p F.some m r room in_range_lem accepted;
  stretch = λ xs small room fit. feed_fit_again R F xs small m room (record { in_range_lem = in_range_lem; fit = fit });
}

-- a record of any other rate has every call refused, with 15
pub own_fit_again : (m : SoftDemodulator) → rate_fit m.rate ≡ true → InRange (samples_in_lem m.rate) m → FitAgain (rate_of m.rate) m
own_fit_again m known = fit_again_at (rate_of m.rate) (rate_facts m.rate known) m

module _ (m : SoftDemodulator) where
  pub fit_again_48 : m.rate ≡ 48000 → InRange 10 m → FitAgain at48 m
  fit_again_48 e in_range_lem =
      subst (λ (rate : ℕ). FitAgain (rate_of rate) m) e (own_fit_again m (rw e) (subst (λ (rate : ℕ). InRange (samples_in_lem rate) m) (sym e) in_range_lem))

  pub fit_again_24 : m.rate ≡ 24000 → InRange 5 m → FitAgain at24 m
  fit_again_24 e in_range_lem =
      subst (λ (rate : ℕ). FitAgain (rate_of rate) m) e (own_fit_again m (rw e) (subst (λ (rate : ℕ). InRange (samples_in_lem rate) m) (sym e) in_range_lem))

-- Where a record and the rules agree they agree after every list of calls, and so do their answers. Assumes nothing.
use mathlib.Core.Path.{◌≡◌, refl, sym, ap, subst, ◌∙◌}
use native.Mathlib.Omega.{arith}
use Prim.Native.Nat.{◌+◌, ◌<◌}
use lib.Dec.{T}
use lib.Ieee.{Float}
use Rattle.numbers.proofs.Tests.{holds}
use Rattle.shaping.specs.Rate.{Rate, rate_fit, rate_of}
use Rattle.shaping.proofs.RateFacts.{own_fit, Facts}
use Rattle.decode.specs.Correlator.{in_range}
use Rattle.search.specs.declared.Control.{Control}
use Rattle.search.specs.Search.{age_of}
use Rattle.search.specs.Fit.{control_fit_lem}
use Rattle.demodulator.specs.declared.SoftDemodulator.{SoftDemodulator}
use Rattle.demodulator.specs.Record.{fresh}
use Rattle.demodulator_run.specs.Rules.{Single, History, start, single}
use Rattle.demodulator_run.specs.Run.{fresh_at, left_at, said_by, Callable}
use Rattle.demodulator_run.specs.Represents.{Represents}
use Rattle.demodulator_run.specs.Demands.{AgeAtMost}
use Rattle.demodulator_run.proofs.Refused.{rate_kept}
use Rattle.demodulator_run.proofs.RateKept.{own}
use Rattle.demodulator_run.proofs.InRange.{Small, small_none, in_range_lem}
use Rattle.demodulator_run.proofs.Sixteen.{taps_bounded, small_called}
use Rattle.demodulator_run.proofs.RunFits.{HeardFit, start_fit, called_fit, Reachable, reachable_start, reachable_next}
use Rattle.demodulator_run.proofs.Stored.{fresh_remembers}
use Rattle.demodulator_run.proofs.RecordFit.{FitForAll, fit_for_all}
use Rattle.demodulator_run.proofs.Step.{call_agrees}
use Rattle.demodulator_run.proofs.DemandAt.{age_limit_at}

module _ (R : Rate) (F : Facts R) where
  some : 0 < R.p
  some = let u = F.some in omega arith

  -- where a run stands: what the record holds, and what the rules keep, of calls that lead there
  pub record Stands (m : SoftDemodulator) (h : History) : Type 0 where
    pub represents : Represents R m h
    pub small : Small h.samples
    pub fit : HeardFit R.p h
    pub reachable : Reachable R.taps R.p h

  -- far below 254
  young : (h : History) → Reachable R.taps R.p h → age_of h.control.candidate < 254
  young h r =
      let age : AgeAtMost (R.p + 1) h.control.candidate = rw r.here at (age_limit_at R F r.calls r.sampled) in
      let few = F.few in
      omega arith

  module _ (m : SoftDemodulator) (h : History) (s : Stands m h) where
    pub stands_fit : FitForAll R.p m
    stands_fit =
        let r = s.represents in
        fit_for_all R.p some m (holds (ap rate_fit r.rate ∙ own_fit R F)) r.rings.window_halves r.rings.window_cursor r.rings.ring_cursor (subst (λ (c : Control). T (control_fit_lem R.p c)) (sym r.control) s.fit.fit)
        (λ j l. subst (λ (x : Float). T (in_range x)) (sym (r.rings.ring j l)) (in_range_lem R.taps R.p (taps_bounded R F) h.samples s.small _))

    pub stands_next : (c : Single) → Callable c → Stands (left_at R m c).demodulator (single R.taps R.p h c).history
    stands_next c g =
        let a = call_agrees R F m h s.represents stands_fit c in
        let f = called_fit R.taps R.p F.some (taps_bounded R F) h s.small s.fit (young h s.reachable) c g in
        record {
          represents = record { rate = rate_kept R m c ∙ s.represents.rate; rings = a.rings; control = a.control; count = ap (λ (o : Control). o.sample) a.control ∙ f.count };
          small = small_called R.taps R.p h c g s.small;
          fit = f;
          reachable = reachable_next R.taps R.p h c s.reachable g;
        }

    pub next_says : (c : Single) → said_by (left_at R m c) ≡ (single R.taps R.p h c).said
    next_says c = (call_agrees R F m h s.represents stands_fit c).says

    -- it is called at that rate
    pub stands_own : rate_of m.rate ≡ R
    stands_own = own R F m s.represents.rate

  -- ---- the start
  pub stands_start : Stands (fresh_at R) start
  unfolding fresh
  stands_start = record {
    represents = record { rate = refl; rings = fresh_remembers R F; control = refl; count = refl };
    small = small_none;
    fit = start_fit R.p;
    reachable = reachable_start R.taps R.p;
  }

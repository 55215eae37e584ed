-- The receiver over every list of single calls since a fresh start, those that will be refused included. Assumes nothing.
use mathlib.Core.Path.{◌≡◌, sym, subst}
use mathlib.Core.List.{List}
use Rattle.machine.specs.Runs.{Each, Simulates}
use Rattle.machine.proofs.Simulation.{runs_related, answers_alike}
use Rattle.shaping.specs.Rate.{Rate}
use Rattle.shaping.proofs.RateFacts.{Facts}
use Rattle.demodulator.specs.declared.SoftDemodulator.{SoftDemodulator}
use Rattle.demodulator_run.specs.Rules.{Single, History, Said, start, single, single_rules, history_all, said_all}
use Rattle.demodulator_run.specs.Run.{fresh_at, left, left_at, said_by, single_receiver, record_after, answers_to, Callable}
use Rattle.demodulator_run.specs.Represents.{Represents}
use Rattle.demodulator_run.proofs.RecordFit.{FitForAll}
use Rattle.demodulator_run.proofs.Step.{own_agrees}
use Rattle.demodulator_run.proofs.Whole.{Stands, stands_fit, next_says, stands_next, stands_own, stands_start}

module _ (R : Rate) (F : Facts R) where
  -- at the rate that it says
  pub follows : Simulates SoftDemodulator History Single Said single_receiver (single_rules R.taps R.p) (Stands R F) Callable
  follows = record {
    alike = λ m h s c g. subst (λ (Q : Rate). said_by (left_at Q m c) ≡ (single R.taps R.p h c).said) (sym (stands_own R F m h s)) (next_says R F m h s c);
    related = λ m h s c g. subst (λ (Q : Rate). Stands R F (left_at Q m c).demodulator (single R.taps R.p h c).history) (sym (stands_own R F m h s)) (stands_next R F m h s c g);
  }

  stands : (cs : List Single) → Each Callable cs → Stands R F (record_after R cs) (history_all R.taps R.p cs)
  stands cs s = runs_related follows cs s (fresh_at R) start (stands_start R F)

  -- After any calls the record holds what the rules say, and every answer, with the room of its call, is the rules'.
  pub singles_run : (cs : List Single) → Each Callable cs → Represents R (record_after R cs) (history_all R.taps R.p cs) × (answers_to R cs ≡ said_all R.taps R.p cs)
  singles_run cs s = ((stands cs s).represents, answers_alike follows cs s (fresh_at R) start (stands_start R F))

  -- after any calls the record is fit for a sample, for a reply and for a query
  pub singles_fit : (cs : List Single) → Each Callable cs → FitForAll R.p (record_after R cs)
  singles_fit cs s = stands_fit R F (record_after R cs) (history_all R.taps R.p cs) (stands cs s)

  -- and so it answers any next one as the rules do
  pub next_single : (cs : List Single) → Each Callable cs → (c : Single) → said_by (left (record_after R cs) c) ≡ (single R.taps R.p (history_all R.taps R.p cs) c).said
  next_single cs s c = (own_agrees R F (record_after R cs) (history_all R.taps R.p cs) (stands cs s).represents (singles_fit cs s) c).says

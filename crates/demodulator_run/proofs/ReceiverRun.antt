-- Demand 2: the receiver over every list of calls since a fresh start, samples, stretches, replies and queries in any order, those that will be refused included. Assumes nothing.
use mathlib.Core.Path.{◌≡◌, sym, subst}
use mathlib.Core.List.{List, ◌++◌}
use Rattle.machine.specs.Runs.{run, answers, Each, Simulates}
use Rattle.machine.proofs.Parts.{each_front}
use Rattle.machine.proofs.Simulation.{runs_related, answers_alike}
use Rattle.shaping.specs.Rate.{Rate}
use Rattle.shaping.proofs.RateFacts.{Facts}
use Rattle.demodulator.specs.declared.SoftDemodulator.{SoftDemodulator}
use Rattle.demodulator_run.specs.Run.{fresh_at}
use Rattle.demodulator_run.specs.Rules.{History, start}
use Rattle.demodulator_run.specs.Calls.{Call, one, stretch, Told, history_next, told_to, rules, record_next, told_by, receiver, Given}
use Rattle.demodulator_run.specs.Represents.{Represents}
use Rattle.demodulator_run.proofs.RecordFit.{FitForAll}
use Rattle.demodulator_run.proofs.Step.{call_agrees}
use Rattle.demodulator_run.proofs.Whole.{Stands, stands_fit, stands_next, stands_own, stands_start}
use Rattle.demodulator_run.proofs.StretchAgrees.{same_stretch}

module _ (R : Rate) (F : Facts R) where
  -- ---- the record simulates the rules
  told_alike : (m : SoftDemodulator) (h : History) → Stands R F m h → (c : Call) → Given c → told_by R m c ≡ told_to R.taps R.p h c
  unfolding Given told_by told_to
  told_alike m h s (one c) g = let e = (call_agrees R F m h s.represents (stands_fit R F m h s) c).says in λ i. record { answer = (e i).answer; fed = 0; room = (e i).room }
  told_alike m h s (stretch xs room) g = let e = same_stretch R F xs m h room g s in λ i. record { answer = e.answers i; fed = e.counts i; room = e.writes i }

  stands_after_call : (m : SoftDemodulator) (h : History) → Stands R F m h → (c : Call) → Given c → Stands R F (record_next R m c) (history_next R.taps R.p h c)
  unfolding Given record_next history_next
  stands_after_call m h s (one c) g = stands_next R F m h s c g
  stands_after_call m h s (stretch xs room) g = (same_stretch R F xs m h room g s).stands

  -- at the rate that it says
  pub follows : Simulates SoftDemodulator History Call Told receiver (rules R) (Stands R F) Given
  follows = record {
    alike = λ m h s c g. subst (λ (Q : Rate). told_by Q m c ≡ told_to R.taps R.p h c) (sym (stands_own R F m h s)) (told_alike m h s c g);
    related = λ m h s c g. subst (λ (Q : Rate). Stands R F (record_next Q m c) (history_next R.taps R.p h c)) (sym (stands_own R F m h s)) (stands_after_call m h s c g);
  }

  pub stands : (cs : List Call) → Each Given cs → Stands R F (run receiver (fresh_at R) cs) (run (rules R) start cs)
  stands cs g = runs_related follows cs g (fresh_at R) start (stands_start R F)

  -- ---- demand 2
  -- After any calls the record holds what the rules say, and every answer, with the count and the room of its call, is the rules'.
  pub receiver_run : (cs : List Call) → Each Given cs → Represents R (run receiver (fresh_at R) cs) (run (rules R) start cs) × (answers receiver (fresh_at R) cs ≡ answers (rules R) start cs)
  receiver_run cs g = ((stands cs g).represents, answers_alike follows cs g (fresh_at R) start (stands_start R F))

  -- after each call of a list: each part from the start is itself a list
  pub after_each : (cs ds : List Call) → Each Given (cs ++ ds) → Represents R (run receiver (fresh_at R) cs) (run (rules R) start cs) × (answers receiver (fresh_at R) cs ≡ answers (rules R) start cs)
  after_each cs ds g = receiver_run cs (each_front Given cs ds g)

  -- ---- after any calls the record is fit for a sample, for a reply and for a query
  pub fit_throughout : (cs : List Call) → Each Given cs → FitForAll R.p (run receiver (fresh_at R) cs)
  fit_throughout cs g = stands_fit R F _ _ (stands cs g)

  -- and so it answers all further calls as the rules do, and any next one
  pub goes_on : (cs ds : List Call) → Each Given cs → Each Given ds → answers receiver (run receiver (fresh_at R) cs) ds ≡ answers (rules R) (run (rules R) start cs) ds
  goes_on cs ds g further = answers_alike follows ds further _ _ (stands cs g)

  pub next_call : (cs : List Call) → Each Given cs → (c : Call) → Given c → receiver.says (run receiver (fresh_at R) cs) c ≡ told_to R.taps R.p (run (rules R) start cs) c
  next_call cs g c = follows.alike _ _ (stands cs g) c

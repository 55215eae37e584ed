-- Demand 2: the sender over every list of calls since a fresh start, those that will be refused included. Assumes nothing.
use mathlib.Core.Path.{◌≡◌, refl, sym, subst}
use mathlib.Core.Bool.{true}
use mathlib.Core.List.{List, ◌++◌}
use Prim.Native.Nat.{ℕ, zero-le}
use native.Mathlib.Nat.{lt_of_lt_of_le}
use native.Mathlib.Omega.{arith}
use lib.Dec.{T, lt→ltb}
use lib.ListN.{get_or-replicate}
use lib.Ieee.{nan, binary32, of_bits, le}
use Rattle.numbers.proofs.Tests.{holds}
use Rattle.numbers.proofs.Below.{below_all}
use Rattle.machine.specs.Runs.{answers, Each, Simulates}
use Rattle.machine.proofs.Parts.{each_front}
use Rattle.machine.proofs.Simulation.{runs_related, answers_alike}
use Rattle.shaping.specs.Rate.{Rate, tap_count}
use Rattle.shaping.proofs.RateFacts.{Facts, own_fit}
use Rattle.modulator.specs.declared.ModulatorFrame.{ModulatorFrame}
use Rattle.modulator.specs.declared.ModulatorFrame.TheVariants.{Nothing as NoFrame, Preamble, Symbols as GivenSymbols, EndOfTransmission}
use Rattle.modulator.specs.declared.SoftModulator.{SoftModulator}
use Rattle.modulator.specs.Record.{fresh}
use Rattle.modulator.specs.Fit.{pulse_fit, window_fit, record_fit_lem}
use Rattle.modulator.proofs.Fitness.{grouped}
use Rattle.modulator_laws.proofs.OutcomeLimits.{Byte}
use Rattle.modulator_laws.proofs.Kept.{progress_fit, frame_keeps, read_keeps, update_keeps, run_keeps}
use Rattle.modulator_run.specs.Rules.{Call, provide, read, update, ask, Sent, Said, start, called, rules, sent_all, said_all}
use Rattle.modulator_run.specs.Run.{left_at, left, said_by, sender, fresh_at, record_after, answers_to, Delay, Given}
use Rattle.modulator_run.specs.Represents.{Represents}
use Rattle.modulator_run.proofs.NextFrame.{window_inside, fresh_remembers}
use Rattle.modulator_run.proofs.Step.{own, call_agrees}

byte : (frame : ModulatorFrame) → Delay frame → Byte frame
unfolding Delay
byte NoFrame d traffic steps e = let z : ◌≡◌ {A = ℕ} 0 1 = cc in omega arith
byte (Preamble carried given) d traffic steps e = let same : given.0 ≡ steps.0 = cc in omega arith
byte (GivenSymbols carried) d traffic steps e = let z : ◌≡◌ {A = ℕ} 0 1 = cc in omega arith
byte EndOfTransmission d traffic steps e = let z : ◌≡◌ {A = ℕ} 0 1 = cc in omega arith

pub stays_fit : (R : Rate) (m : SoftModulator) → record_fit_lem R.p m ≡ true → (c : Call) → Given c → record_fit_lem R.p (left_at R m c).modulator ≡ true
unfolding left_at Given
stays_fit R m fit (provide frame symbols) g = frame_keeps R m fit frame symbols (byte frame g)
stays_fit R m fit (read room) g = read_keeps R m fit room
stays_fit R m fit (update fill capacity latency) g = update_keeps R m fit fill capacity latency
stays_fit R m fit ask g = run_keeps R m fit

module _ (R : Rate) (F : Facts R) where
  -- ---- where a run stands
  pub record Stands (m : SoftModulator) (s : Sent) : Type 0 where
    pub represents : Represents R m s
    pub fit : record_fit_lem R.p m ≡ true

  nought_fits : T (pulse_fit (of_bits binary32 0))
  unfolding pulse_fit of_bits le
  nought_fits = tt

  fresh_fits : record_fit_lem R.p (fresh_at R) ≡ true
  unfolding fresh window_fit
  fresh_fits =
      grouped R.p (fresh_at R) (record {
        rate = holds (own_fit R F);
        cursor = lt→ltb 0 (tap_count R.p) (omega arith);
        window = below_all (tap_count R.p) _ λ i l. rw (get_or-replicate 81 i (of_bits binary32 0) nan (lt_of_lt_of_le l (window_inside R F))) nought_fits;
        progress = progress_fit R.p (fresh_at R).progress (record { len = zero-le; read = zero-le; padding = zero-le });
        buffer = tt;
        report = tt;
      })

  stands_start : Stands (fresh_at R) start
  unfolding fresh
  stands_start = record { represents = record { rate = refl; remembers = fresh_remembers R F _; progress = refl; pending = refl; buffer = refl }; fit = fresh_fits }

  -- ---- the record simulates the rules
  follows : Simulates SoftModulator Sent Call Said sender (rules R) Stands Given
  follows = record {
    alike = λ m s st c g. (call_agrees R F m s st.represents st.fit c).says;
    related = λ m s st c g. record { represents = (call_agrees R F m s st.represents st.fit c).represents; fit = subst (λ (Q : Rate). record_fit_lem R.p (left_at Q m c).modulator ≡ true) (sym (own R F m st.represents.rate)) (stays_fit R m st.fit c g) };
  }

  stands : (cs : List Call) → Each Given cs → Stands (record_after R cs) (sent_all R cs)
  stands cs g = runs_related follows cs g (fresh_at R) start stands_start

  -- ---- demand 2
  -- After any calls the record holds what the rules say, and every answer, with the room of its call, is the rules'.
  pub sender_run : (cs : List Call) → Each Given cs → Represents R (record_after R cs) (sent_all R cs) × (answers_to R cs ≡ said_all R cs)
  sender_run cs g = ((stands cs g).represents, answers_alike follows cs g (fresh_at R) start stands_start)

  -- after each call of a list: each part from the start is itself a list
  pub after_each : (cs ds : List Call) → Each Given (cs ++ ds) → Represents R (record_after R cs) (sent_all R cs) × (answers_to R cs ≡ said_all R cs)
  after_each cs ds g = sender_run cs (each_front Given cs ds g)

  -- ---- more calls
  pub answers_from : (cs ds : List Call) → Each Given cs → Each Given ds → answers sender (record_after R cs) ds ≡ answers (rules R) (sent_all R cs) ds
  answers_from cs ds g h = answers_alike follows ds h (record_after R cs) (sent_all R cs) (stands cs g)

  -- the record is fit
  pub fit_throughout : (cs : List Call) → Each Given cs → record_fit_lem R.p (record_after R cs) ≡ true
  fit_throughout cs g = (stands cs g).fit

  -- and so the record answers any next call as the rules do
  pub next_call : (cs : List Call) → Each Given cs → (c : Call) → said_by (left (record_after R cs) c) ≡ (called R (sent_all R cs) c).said
  next_call cs g c = (call_agrees R F (record_after R cs) (sent_all R cs) (stands cs g).represents (stands cs g).fit c).says

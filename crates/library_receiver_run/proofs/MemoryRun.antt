-- The exports over every list of calls on one memory: from a fresh receiver their answers are the rules',
-- and the memory is what the rules say. Assumes nothing.
use mathlib.Core.Path.{◌≡◌, refl, sym, ap, subst, ◌∙◌}
use mathlib.Core.Logic.{⊎_elim}
use mathlib.Core.Bool.{true}
use mathlib.Core.List.{List, [], ◌∷◌, map}
use Prim.Native.Nat.{ℕ, ◌%◌, ◌≤◌, ◌<◌}
use native.Mathlib.Nat.{mod-eq_of_lt}
use native.Mathlib.Omega.{arith}
use borrow.Author.Tests.{eq-eqb}
use lib.Dec.{eqb, lit<}
use lib.ListN.{get_or}
use Rattle.machine.specs.Runs.{Machine, run, answers, Each, Simulates}
use Rattle.machine.proofs.Simulation.{runs_related, answers_alike}
use Rattle.shaping.specs.Rate.{Rate, rate_fit, rate_of, per_second}
use Rattle.shaping.proofs.RateFacts.{Facts, own_fit, rate_known, two_rates}
use Rattle.demodulator.specs.declared.SoftDemodulator.{SoftDemodulator}
use Rattle.demodulator.specs.Record.{fresh}
use Rattle.demodulator.specs.Calls.{Paper, refusal, nothing, frame, done, carrier}
use Rattle.demodulator_run.specs.Rules.{start}
use Rattle.demodulator_run.specs.Run.{fresh_at}
use Rattle.demodulator_run.specs.Calls.{Told, rules, receiver, record_next, Given}
use Rattle.demodulator_run.specs.Represents.{Represents}
use Rattle.demodulator_run.proofs.Refused.{refused_record}
use Rattle.demodulator_run.proofs.RateKept.{call_rate}
use Rattle.demodulator_run.proofs.ReceiverRun.{receiver_run}
use Rattle.library_layout.specs.Layout.{record_code_lem}
use Rattle.library_layout.specs.Within.{Holdable}
use Rattle.library_layout.proofs.ControlBack.{control_back, in_holdable}
use Rattle.library_layout.proofs.RecordCode.{code_tells, written_code}
use Rattle.library_receiver.specs.Memory.{Memory, record_in, laid_out, Export, feeds, replies, asks, called, laid_after, Coded, coded, memory_says, memory_next}
use Rattle.library_receiver_run.specs.Runs.{memory, call_of, coded_told, coded_all}
use Rattle.library_receiver_run.proofs.Holdable.{call_holds}
use Rattle.library_receiver_run.proofs.Answers.{called_told, called_next, asked_keeps, Fits, answer_fits}

-- ---- memory that is a receiver's, and the record that it is
pub record Is (m : Memory) (d : SoftDemodulator) : Type 0 where
  pub ours : record_code_lem m.numbers ≡ 0
  pub same : record_in m ≡ d

whole_rate : (n : ℕ) → rate_fit n ≡ true → n % 65536 ≡ n
whole_rate n e = ⊎_elim (λ (k : n ≡ 48000). mod-eq_of_lt (omega arith)) (λ (k : n ≡ 24000). mod-eq_of_lt (omega arith)) (two_rates n e)

-- a record that is laid out is read back
pub laid_is : (d : SoftDemodulator) → rate_fit d.rate ≡ true → Holdable d.control → Is (laid_out d) d
laid_is d e h =
    let back = control_back d.rate d.filter_cursor d.rx_cursor d.control h in
    let whole = whole_rate d.rate e in
    record {
      ours = written_code d.rate d.filter_cursor d.rx_cursor d.control e h;
      same = λ i. record {
        rate = whole i;
        filter_win = d.filter_win;
        filter_cursor = d.filter_cursor;
        rx_win = d.rx_win;
        rx_cursor = d.rx_cursor;
        control = back i;
      };
    }

-- ---- the record, answering as the exports do
abbrev coded_receiver : Machine SoftDemodulator Export Coded
coded_receiver = record { next = λ d e. receiver.next d (call_of e); says = λ d e. coded_told e (receiver.says d (call_of e)) }

module _ (m : Memory) (d : SoftDemodulator) (s : Is m d) where
  known : eqb (record_code_lem m.numbers) 0 ≡ true
  known = eq-eqb (record_code_lem m.numbers) 0 s.ours

  says_coded : (e : Export) → memory_says m e ≡ coded_told e (receiver.says d (call_of e))
  unfolding memory_says
  says_coded e = rw known (ap (λ (x : SoftDemodulator). coded e (called x e)) s.same ∙ ap (coded_told e) (called_told d e))

  rate_is : rate_fit d.rate ≡ true
  rate_is =
      let few : record_code_lem m.numbers < 100 = omega (arith, s.ours) in
      let fit = (code_tells m.numbers few).0 in
      subst (λ (x : SoftDemodulator). rate_fit x.rate ≡ true) s.same (rw (whole_rate (get_or m.numbers 0 0) fit) fit)

  next_is : (e : Export) → Is (laid_out (called d e).state) (called d e).state
  next_is e =
      let R = rate_of d.rate in
      let few : R.p ≤ 10 = (rate_known d.rate rate_is).1 in
      let holds = subst (λ (x : SoftDemodulator). Holdable x.control) s.same (in_holdable m.numbers m.levels) in
      let after : Is (laid_out (record_next R d (call_of e))) (record_next R d (call_of e)) =
      laid_is (record_next R d (call_of e)) (rw (call_rate R d (call_of e)) rate_is) (call_holds R few d (call_of e) holds) in
      subst (λ (x : SoftDemodulator). Is (laid_out x) x) (sym (called_next d e)) after

  unmoved : (x : SoftDemodulator) → x ≡ d → Is m x
  unmoved x e = record { ours = s.ours; same = s.same ∙ sym e }

  after_is : (e : Export) (a : Paper) → (called d e).answer ≡ a → Fits e a → Is (laid_after a m (called d e).state) (called d e).state
  after_is e (refusal number) is fits =
      let said = ap (λ (t : Told). t.answer) (sym (called_told d e)) ∙ is in
      unmoved (called d e).state (called_next d e ∙ (refused_record (rate_of d.rate) d (call_of e) number said).0)
  after_is e nothing is fits = next_is e
  after_is e (frame o) is fits = next_is e
  after_is e done is fits = next_is e
  after_is (feeds xs lent) (carrier there) is fits = absurd fits
  after_is (replies accepted) (carrier there) is fits = absurd fits
  after_is asks (carrier there) is fits = unmoved (called d asks).state (asked_keeps d)

  next_coded : (e : Export) → Is (memory_next m e) (receiver.next d (call_of e))
  unfolding memory_next
  next_coded e =
      rw known
      (subst (λ (x : SoftDemodulator). Is (laid_after (called x e).answer m (called x e).state) (receiver.next d (call_of e)))
      (sym s.same)
      (subst (Is (laid_after (called d e).answer m (called d e).state)) (called_next d e)
      (after_is e (called d e).answer refl (answer_fits d e))))

abbrev Any : Export → Type 0
Any e = Unit {0}

follows : Simulates Memory SoftDemodulator Export Coded memory coded_receiver Is Any
follows = record { alike = λ m d s e g. says_coded m d s e; related = λ m d s e g. next_coded m d s e }

any : (es : List Export) → Each Any es
unfolding Each
any [] = tt
any (e ∷ es) = (tt, any es)

-- ---- the record's answers to the same calls, coded
answers_coded : (es : List Export) (d : SoftDemodulator) → answers coded_receiver d es ≡ coded_all es (answers receiver d (map call_of es))
unfolding answers coded_all
answers_coded [] d = refl
answers_coded (e ∷ es) d =
    ap (λ (l : List Coded). coded_told e (receiver.says d (call_of e)) ∷ l) (answers_coded es (receiver.next d (call_of e)))

run_coded : (es : List Export) (d : SoftDemodulator) → run coded_receiver d es ≡ run receiver d (map call_of es)
unfolding run
run_coded [] d = refl
run_coded (e ∷ es) d = run_coded es (receiver.next d (call_of e))

-- ---- any memory that is a receiver's, made up too: over any calls it is the record that the calls on the record leave,
-- and each answer is the record's
module _ (m : Memory) (d : SoftDemodulator) (s : Is m d) (es : List Export) where
  pub memory_is : Is (run memory m es) (run receiver d (map call_of es))
  memory_is = subst (Is (run memory m es)) (run_coded es d) (runs_related follows es (any es) m d s)

  pub memory_answers : answers memory m es ≡ coded_all es (answers receiver d (map call_of es))
  memory_answers = answers_alike follows es (any es) m d s ∙ answers_coded es d

-- ---- from a fresh receiver
pub fresh_is : (rate : ℕ) → rate_fit rate ≡ true → Is (laid_out (fresh rate)) (fresh rate)
unfolding fresh
fresh_is rate e = laid_is (fresh rate) e (record { age = lit< tt; left = lit< tt; kept = lit< tt })

-- demand 2 over memory
module _ (R : Rate) (F : Facts R) (es : List Export) (g : Each Given (map call_of es)) where
  abbrev begun : Memory
  begun = laid_out (fresh_at R)

  pub memory_run : (answers memory begun es ≡ coded_all es (answers (rules R) start (map call_of es)))
      × Represents R (record_in (run memory begun es)) (run (rules R) start (map call_of es))
  memory_run =
      let s = fresh_is (per_second R.p) (own_fit R F) in
      let r = receiver_run R F (map call_of es) g in (
        memory_answers begun (fresh_at R) s es ∙ ap (coded_all es) r.1,
        subst (λ (d : SoftDemodulator). Represents R d (run (rules R) start (map call_of es)))
            (sym (memory_is begun (fresh_at R) s es).same) r.0,
      )

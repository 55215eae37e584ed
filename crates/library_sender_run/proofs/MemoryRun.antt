-- The exports over every list of calls on one memory: from a fresh sender the answers are the rules', and the memory holds what the rules have sent. Assumes nothing.
use mathlib.Core.Path.{◌≡◌, refl, sym, ap, subst, ◌∙◌}
use mathlib.Core.Bool.{Bool, true, false, cond}
use mathlib.Core.List.{List, [], ◌∷◌, map}
use Prim.Native.Nat.{ℕ}
use borrow.Author.Tests.{leb-true}
use lib.Dec.{leb}
use Rattle.machine.specs.Runs.{Machine, run, answers, Each, Simulates}
use Rattle.machine.proofs.Simulation.{runs_related, answers_alike}
use Rattle.shaping.specs.Rate.{Rate, rate_of, per_second}
use Rattle.shaping.proofs.RateFacts.{Facts, own_fit}
use Rattle.modulator.specs.declared.SoftModulator.{SoftModulator}
use Rattle.modulator.specs.Record.{fresh}
use Rattle.modulator.specs.Calls.{made}
use Rattle.modulator_run.specs.Rules.{Call, provide, read, update, ask, sent_all, said_all}
use Rattle.modulator_run.specs.Run.{left_at, left, said_by, sender, fresh_at, Given}
use Rattle.modulator_run.specs.Represents.{Represents}
use Rattle.modulator_run.proofs.SenderRun.{sender_run}
use Rattle.modulator_laws.proofs.RateKept.{provided_rate, read_rate, updated_rate, ran_rate}
use Rattle.library_sender.specs.Layout.{numbers_code}
use Rattle.library_sender.specs.Memory.{Memory, record_in, laid_out, paper_code, tells, room_lent, Export, Coded, coded_as, left_in, memory_says, memory_next, memory}
use Rattle.library_sender.specs.Exports.{M17SenderNewSays}
use Rattle.library_sender.proofs.Promises.{code_answered, known_rate}
use Rattle.library_sender.proofs.LeftPlaces.{refused_kept}
use Rattle.library_sender_run.specs.Chain.{Holds, call_of, coded, coded_all, Chain, ends, calls}
use Rattle.library_sender_run.proofs.ThereAndBack.{laid_holds}

rate_stays : (d : SoftModulator) (c : Call) → (left d c).modulator.rate ≡ d.rate
unfolding left_at
rate_stays d (provide frame symbols) = provided_rate (rate_of d.rate) d frame symbols
rate_stays d (read room) = read_rate (rate_of d.rate) d room
rate_stays d (update fill capacity latency) = updated_rate (rate_of d.rate) d fill capacity latency
rate_stays d ask = ran_rate (rate_of d.rate) d

-- ---- one call on memory that is a sender's
module _ (m : Memory) (good : numbers_code m.numbers ≡ 0) (e : Export) where
  says_coded : memory_says m e ≡ coded e (said_by (left_in m e))
  unfolding memory_says
  says_coded = rw (code_answered m e good) (by_test (leb 100 (paper_code (left_in m e).answer)) refl)
    where
      by_test : (b : Bool) → leb 100 (paper_code (left_in m e).answer) ≡ b
          → coded_as (paper_code (left_in m e).answer) (cond b (room_lent e.call) (left_in m e).room) (cond b e.told (tells (left_in m e).answer e.told)) ≡ coded e (said_by (left_in m e))
      by_test true t =
          let k = refused_kept (record_in m) e.call (leb-true 100 _ t) in
          λ i. coded_as (paper_code (left_in m e).answer) (sym k.room_kept i) (sym (k.told_kept e.told) i)
      by_test false t = refl

  next_holds : Holds (memory_next m e) (left_in m e).modulator
  unfolding memory_next
  next_holds = rw (code_answered m e good) (by_test (leb 100 (paper_code (left_in m e).answer)) refl)
    where
      by_test : (b : Bool) → leb 100 (paper_code (left_in m e).answer) ≡ b → Holds (cond b m (laid_out (left_in m e).modulator)) (left_in m e).modulator
      by_test true t = record { numbers = good; same = sym (refused_kept (record_in m) e.call (leb-true 100 _ t)).record_kept }
      by_test false t = laid_holds (left_in m e).modulator (rw (rate_stays (record_in m) e.call) (known_rate m.numbers good))

-- ---- the record, answering as the exports do
abbrev coded_sender : Machine SoftModulator Export Coded
coded_sender = record { next = λ d e. sender.next d e.call; says = λ d e. coded e (sender.says d e.call) }

abbrev Any : Export → Type 0
Any e = Unit {0}

any : (es : List Export) → Each Any es
unfolding Each
any [] = tt
any (e ∷ es) = (tt, any es)

follows : Simulates Memory SoftModulator Export Coded memory coded_sender Holds Any
follows = record {
  alike = λ m d s e g. says_coded m s.numbers e ∙ ap (λ (x : SoftModulator). coded e (sender.says x e.call)) s.same;
  related = λ m d s e g. subst (λ (x : SoftModulator). Holds (memory_next m e) (sender.next x e.call)) s.same (next_holds m s.numbers e);
}

answers_coded : (es : List Export) (d : SoftModulator) → answers coded_sender d es ≡ coded_all es (answers sender d (map call_of es))
unfolding answers coded_all
answers_coded [] d = refl
answers_coded (e ∷ es) d = ap (λ (l : List Coded). coded e (sender.says d e.call) ∷ l) (answers_coded es (sender.next d e.call))

run_coded : (es : List Export) (d : SoftModulator) → run coded_sender d es ≡ run sender d (map call_of es)
unfolding run
run_coded [] d = refl
run_coded (e ∷ es) d = run_coded es (sender.next d e.call)

-- any memory that is a sender's, made-up ones too
module _ (m : Memory) (d : SoftModulator) (s : Holds m d) (es : List Export) where
  pub memory_holds : Holds (run memory m es) (run sender d (map call_of es))
  memory_holds = subst (Holds (run memory m es)) (run_coded es d) (runs_related follows es (any es) m d s)

  pub memory_answers : answers memory m es ≡ coded_all es (answers sender d (map call_of es))
  memory_answers = answers_alike follows es (any es) m d s ∙ answers_coded es d

-- what the promises of a list of calls allow is what the memory says
pub chain_run : {m after : Memory} {es : List Export} {told : List Coded} → Chain m es told after → (told ≡ answers memory m es) × (after ≡ run memory m es)
unfolding answers run
chain_run (ends m) = (refl, refl)
chain_run (calls m n after e es a rest x more) =
    let k = chain_run more in
    let later = k.0 ∙ ap (λ (s : Memory). answers memory s es) x.leaves in
    (λ i. x.answers i ∷ later i, k.1 ∙ ap (λ (s : Memory). run memory s es) x.leaves)

-- ---- from a fresh sender
module _ (R : Rate) (F : Facts R) where
  fresh_holds : Holds (laid_out (fresh_at R)) (fresh_at R)
  unfolding fresh
  fresh_holds = laid_holds (fresh_at R) (own_fit R F)

  pub memory_run : (es : List Export) → Each Given (map call_of es)
      → (answers memory (laid_out (fresh_at R)) es ≡ coded_all es (said_all R (map call_of es))) × Represents R (record_in (run memory (laid_out (fresh_at R)) es)) (sent_all R (map call_of es))
  memory_run es g =
      let begun = laid_out (fresh_at R) in
      let r = sender_run R F (map call_of es) g in (
        memory_answers begun (fresh_at R) fresh_holds es ∙ ap (coded_all es) r.1,
        subst (λ (d : SoftModulator). Represents R d (sent_all R (map call_of es))) (sym (memory_holds begun (fresh_at R) fresh_holds es).same) r.0,
      )

  -- ---- the same of the exports: `m17_sender_new` on any memory, and any calls after it
  pub new_made : (m after : Memory) (code : ℕ) → M17SenderNewSays m (per_second R.p) code after → (code ≡ 0) × (after ≡ laid_out (fresh_at R))
  unfolding made
  new_made m after code new =
      let done-code : code ≡ 0 = new.answers ∙ rw (own_fit R F) refl in
      (done-code, new.leaves ∙ rw done-code refl)

  pub exports_run : (m begins after : Memory) (code : ℕ) → M17SenderNewSays m (per_second R.p) code begins
      → (es : List Export) → Each Given (map call_of es) → (told : List Coded) → Chain begins es told after
      → (told ≡ coded_all es (said_all R (map call_of es))) × Represents R (record_in after) (sent_all R (map call_of es))
  exports_run m begins after code new es g told chain =
      let k = chain_run chain in
      let q = memory_run es g in
      let same = (new_made m begins code new).1 in (
        k.0 ∙ ap (λ (s : Memory). answers memory s es) same ∙ q.0,
        subst (λ (s : Memory). Represents R (record_in s) (sent_all R (map call_of es))) (sym (k.1 ∙ ap (λ (s : Memory). run memory s es) same)) q.1,
      )

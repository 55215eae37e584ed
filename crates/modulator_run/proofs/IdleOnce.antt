-- "idle yes (once from a fresh start)", over lists of calls: it is told by the first action request that finds no report and no unread frame sample, and by no other. Assumes nothing.
use mathlib.Core.Path.{◌≡◌, refl, sym, ap, subst, ◌∙◌}
use mathlib.Core.Logic.{◌↔◌}
use mathlib.Core.Bool.{Bool, true, false}
use mathlib.Core.List.{List, [], ◌∷◌, ◌++◌, append_assoc}
use Prim.Native.Nat.{ℕ}
use native.Mathlib.Omega.{arith}
use borrow.Author.Tests.{le-ltb}
use lib.Dec.{T}
use Rattle.machine.specs.Runs.{run, Each}
use Rattle.machine.proofs.Parts.{run_joined, run_last}
use Rattle.shaping.specs.Rate.{Rate}
use Rattle.shaping.proofs.RateFacts.{Facts}
use Rattle.modulator.specs.Paper.{idle}
use Rattle.modulator.specs.Outcome.{Outcome, action_by}
use Rattle.modulator_laws.proofs.EachCase.{each_action}
use Rattle.modulator_run.specs.Rules.{Call, ask, Sent, Said, After, start, control_in, framed, settled, drained, called, rules, sent_all}
use Rattle.modulator_run.specs.Run.{left, record_after, Given}
use Rattle.modulator_run.specs.Reports.{Free, FreeBefore}
use Rattle.modulator_run.proofs.EachCall.{each_call}
use Rattle.modulator_run.proofs.LastCall.{by_last}
use Rattle.modulator_run.proofs.SenderRun.{next_call}

-- idle is not told yet
abbrev untold : Sent → Bool
untold s = s.pending.update_idle

-- ---- one request
record Idles (s : Sent) (state : Bool) : Type 0 where
  yes_said : state ≡ true
  free : Free s
  first : untold s ≡ true

module _ (R : Rate) where
  idles_forth : (s : Sent) (state : Bool) → (called R s ask).said.answer ≡ idle state → Idles s state
  unfolding called settled
  idles_forth s state =
      each_action (control_in s) (λ (o : Outcome). (settled R s o).said.answer ≡ idle state → Idles s state) (record {
        told_end = λ _ _ e. let z : ◌≡◌ {A = ℕ} 0 1 = cc in let never : ⊥ = omega arith in absurd never;
        unread = λ _ _ e. let z : ◌≡◌ {A = ℕ} 0 1 = cc in let never : ⊥ = omega arith in absurd never;
        idles = λ r l i e. record { yes_said = cc; free = record { no_report_lem = r; all_read = l }; first = i };
        wishes = λ _ _ _ e. let z : ◌≡◌ {A = ℕ} 0 1 = cc in let never : ⊥ = omega arith in absurd never;
        rests = λ _ _ _ e. let z : ◌≡◌ {A = ℕ} 0 1 = cc in let never : ⊥ = omega arith in absurd never;
      })

  free_asked : (s : Sent) → Free s → untold s ≡ true → (called R s ask).said.answer ≡ idle true
  unfolding called settled action_by
  free_asked s f i = rw (f.no_report_lem, le-ltb s.progress.next_read s.progress.next_len f.all_read, i)

  -- after it, idle is told
  free_tells : (s : Sent) → Free s → untold (called R s ask).sent ≡ false
  unfolding called settled
  free_tells s f =
      each_action (control_in s) (λ (o : Outcome). untold (settled R s o).sent ≡ false) (record {
        told_end = λ end r. let none = f.no_report_lem in cc;
        unread = λ _ l. let all = f.all_read in let never : ⊥ = omega arith in absurd never;
        idles = λ _ _ _. refl;
        wishes = λ _ _ i. i;
        rests = λ _ _ i. i;
      })

  -- ---- one call
  -- It stays untold, or the call is a request that finds neither.
  Untouched : Sent → Call → After → Type 0
  Untouched s c a = ((c ≡ ask → Free s → ⊥) → untold a.sent ≡ untold s) × (untold s ≡ false → untold a.sent ≡ false)

  untouched : (s : Sent) (c : Call) → Untouched s c (called R s c)
  unfolding Untouched framed drained
  untouched s =
      each_call R s (Untouched s) (record {
        refused = λ _ _ _. (λ _. refl, λ e. e);
        no_frame = λ _. (λ _. refl, λ e. e);
        delayed = λ _ _ _. (λ _. refl, λ e. e);
        symbols_given = λ _ _ _. (λ _. refl, λ e. e);
        last_frame = λ _. (λ _. refl, λ e. e);
        reads = λ _. (λ _. refl, λ e. e);
        stored = λ _ _ _ _. (λ _. refl, λ e. e);
        told = λ _ _. (λ _. refl, λ e. e);
        unread = λ _ _. (λ _. refl, λ e. e);
        idles = λ r l i. (λ busy. absurd (busy refl (record { no_report_lem = r; all_read = l })), λ _. refl);
        wishes = λ _ _ _. (λ _. refl, λ e. e);
        rests = λ _ _ _. (λ _. refl, λ e. e);
      })

  -- ---- all calls
  stays_told : (cs : List Call) (s : Sent) → untold s ≡ false → untold (run (rules R) s cs) ≡ false
  unfolding run Untouched
  stays_told [] s e = e
  stays_told (c ∷ cs) s e = stays_told cs (called R s c).sent ((untouched s c).1 e)

  told_before : (cs : List Call) → FreeBefore R cs → untold (sent_all R cs) ≡ false
  unfolding run
  told_before cs f =
      let there : Sent = sent_all R f.before in
      ap (λ (ds : List Call). untold (sent_all R ds)) f.parts
      ∙ ap untold (run_joined (rules R) f.before (ask ∷ f.since) start)
      ∙ stays_told f.since (called R there ask).sent (free_tells there f.free)

  longer : (cs : List Call) (c : Call) → FreeBefore R cs → FreeBefore R (cs ++ c ∷ [])
  longer cs c f = record {
    before = f.before;
    since = f.since ++ c ∷ [];
    parts = ap (λ (ds : List Call). ds ++ c ∷ []) f.parts ∙ append_assoc f.before (ask ∷ f.since) (c ∷ []);
    free = f.free;
  }

  untold_start : untold (sent_all R []) ≡ true
  unfolding run
  untold_start = refl

  still_untold : (cs : List Call) → (FreeBefore R cs → ⊥) → untold (sent_all R cs) ≡ true
  unfolding Untouched
  still_untold =
      by_last (λ (cs : List Call). (FreeBefore R cs → ⊥) → untold (sent_all R cs) ≡ true) (λ _. untold_start) λ cs c before never.
      let there : Sent = sent_all R cs in
      let busy : c ≡ ask → Free there → ⊥ = λ e f. never (record { before = cs; since = []; parts = ap (λ (d : Call). cs ++ d ∷ []) e; free = f }) in
      ap untold (run_last (rules R) cs c start) ∙ (untouched there c).0 busy ∙ before (λ f. never (longer cs c f))

  -- ---- the first request that finds neither is answered with idle, and no other request is
  pub idle_first : (cs : List Call) → Free (sent_all R cs) → (FreeBefore R cs → ⊥) → (called R (sent_all R cs) ask).said.answer ≡ idle true
  idle_first cs f never = free_asked (sent_all R cs) f (still_untold cs never)

  pub idle_only : (cs : List Call) (state : Bool) → (called R (sent_all R cs) ask).said.answer ≡ idle state → (state ≡ true) × Free (sent_all R cs) × (FreeBefore R cs → ⊥)
  idle_only cs state e =
      let i = idles_forth (sent_all R cs) state e in
      (i.yes_said, i.free, λ f. subst T (sym i.first ∙ told_before cs f) tt)

  -- at most once
  pub idle_once : (cs ds : List Call) (one other : Bool) → (called R (sent_all R cs) ask).said.answer ≡ idle one
      → (called R (sent_all R (cs ++ ask ∷ ds)) ask).said.answer ≡ idle other → ⊥
  idle_once cs ds one other e later =
      (idle_only (cs ++ ask ∷ ds) other later).2 (record { before = cs; since = ds; parts = refl; free = (idle_only cs one e).1 })

-- ---- the record, from a fresh start
pub idle_by_record : (R : Rate) → Facts R → (cs : List Call) → Each Given cs → ((left (record_after R cs) ask).answer ≡ idle true) ↔ (Free (sent_all R cs) × (FreeBefore R cs → ⊥))
idle_by_record R F cs g =
    let same = ap (λ (a : Said). a.answer) (next_call R F cs g ask) in
    (λ e. let i = idle_only R cs true (sym same ∙ e) in (i.1, i.2), λ f. same ∙ idle_first R cs f.0 f.1)

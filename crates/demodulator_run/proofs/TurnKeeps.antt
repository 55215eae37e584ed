-- A sample and a reply keep the invariant. Assumes nothing.
use Rattle.std.specs.Prelude.{Option, Some, None}
use mathlib.Core.Path.{◌≡◌, refl, sym, subst}
use mathlib.Core.Bool.{Bool, true, false, cond, true≢false}
use mathlib.Core.List.{List, [], ◌++◌, append-nil}
use Prim.Native.Nat.{ℕ, ◌+◌, ◌-◌, ◌<◌}
use native.Mathlib.Omega.{arith}
use lib.Dec.{ltb}
use borrow.Author.Tests.{ltb-true, ltb-false}
use Rattle.search.specs.declared.Candidate.{Candidate}
use Rattle.search.specs.declared.Candidate.TheVariants.{Nothing}
use Rattle.search.specs.declared.Waiting.{Waiting}
use Rattle.search.specs.declared.Control.{Control}
use Rattle.search.specs.declared.Turn.TheVariants.{Rest}
use Rattle.search.specs.declared.Reply.{Reply}
use Rattle.search.specs.declared.Reply.TheVariants.{Accepted, Rejected}
use Rattle.search.specs.TakenBurst.{TakenBurst, held_as, held_in, shown_of}
use Rattle.search.specs.Turn.{cleared, nearer, due_turn, waited_turn, comes_to, control_of, sampled, replied}
use Rattle.search.proofs.HeldOrNot.{HeldOrNot, not_held, is_held, held_or_not}
use Rattle.demodulator_run.specs.Marks.{Mark, due_marks, waited_marks, sampled_marks, replied_marks}
use Rattle.demodulator_run.specs.Demands.{SymbolSize, Ear, Alone, NotAgain}
use Rattle.demodulator_run.proofs.Pass.{Step, controlled}
use Rattle.demodulator_run.proofs.Account.{Episode}
use Rattle.demodulator_run.proofs.Phase.{Idle, Awaiting, Phase, Kept, account_later, busy_later}
use Rattle.demodulator_run.proofs.FallenDue.{fallen}
use Rattle.demodulator_run.proofs.SearchKeeps.{KeptBy, search_idle, search_held}

-- wait and candidate removed, at the sample after n
abbrev at_rest : Option ℕ → ℕ → Control
at_rest t n = controlled Nothing None t false (n + 1)

module _ (ear : Ear) (p : ℕ) (big : SymbolSize p) (alone : Alone ear) (again : NotAgain ear p) (l : List Mark) where
  -- the frame falls due, and is offered
  kept_due : (n : ℕ) (t : Option ℕ) (w : Waiting) (held : TakenBurst) → Awaiting ear p l n (record { left = 1; age = w.age; replaced = w.replaced }) held
      → KeptBy ear p l (record {
        control = control_of (comes_to p (ear (n + 1)) (due_turn (Some held) w (at_rest t n)));
        marks = due_marks p (ear (n + 1)) (Some held) w (at_rest t n);
      })
  unfolding due_turn due_marks
  kept_due n t w held W = fallen ear p l n w.age w.replaced held W

  -- one sample less to wait
  later : (n : ℕ) (w : Waiting) (held : TakenBurst) → 1 < w.left → Awaiting ear p l n w held → Awaiting ear p l (n + 1) (nearer w) held
  later n w held o W = record {
    first = W.first;
    b = W.b;
    kind = W.kind;
    s = W.s;
    busy = busy_later ear p (omega arith) W.busy;
    episode = subst (λ (d : ℕ). Episode ear p l W.first W.b W.kind W.s d (shown_of held w.age w.replaced)) {x = n + w.left} {y = (n + 1) + (w.left - 1)} (omega arith) W.episode;
    over = let u = W.over in omega arith;
    some = omega arith;
    short = let u = W.short in omega arith;
    born = W.born;
    aged = W.aged;
    source = W.source;
    heard = W.heard;
    values = W.values;
  }

  kept_awaiting : (n : ℕ) (w : Waiting) (t : Option ℕ) (held : TakenBurst) → Awaiting ear p l n w held
      → KeptBy ear p l (record {
        control = control_of (comes_to p (ear (n + 1)) (waited_turn (Some w) (controlled (held_as held) (Some w) t false (n + 1))));
        marks = waited_marks p (ear (n + 1)) (Some w) (controlled (held_as held) (Some w) t false (n + 1));
      })
  unfolding waited_turn waited_marks
  kept_awaiting n w t held W = go (ltb 1 w.left) refl
    where
      go : (b : Bool) → ltb 1 w.left ≡ b
          → Kept ear p (l ++ cond b [] (due_marks p (ear (n + 1)) (Some held) w (at_rest t n)))
          (control_of (comes_to p (ear (n + 1)) (cond b (Rest (controlled (held_as held) (Some (nearer w)) t false (n + 1))) (due_turn (Some held) w (at_rest t n)))))
      go true e = (refl, subst (λ (m : List Mark). Awaiting ear p m (n + 1) (nearer w) held) (sym (append-nil l)) (later n w held (ltb-true 1 w.left e) W))
      go false e = kept_due n t w held
          (subst (λ (r : ℕ). Awaiting ear p l n (record { left = r; age = w.age; replaced = w.replaced }) held) {x = w.left} {y = 1} (let u = W.some in let v = ltb-false 1 w.left e in omega arith) W)

  -- a sample, while no reply is owed
  turned : (n : ℕ) {candidate : Candidate} → HeldOrNot candidate → (wait : Option Waiting) (t : Option ℕ) → Phase ear p l n (held_in candidate) wait false
      → KeptBy ear p l (record { control = control_of (comes_to p (ear (n + 1)) (waited_turn wait (controlled candidate wait t false (n + 1)))); marks = waited_marks p (ear (n + 1)) wait (controlled candidate wait t false (n + 1)) })
  turned n not_held None t I = unfold waited_turn waited_marks in search_idle ear p alone l (n + 1) t (account_later ear p (omega arith) I)
  turned n not_held (Some w) t I = absurd I
  turned n (is_held held) None t I = unfold waited_turn waited_marks in search_held ear p alone l big again n held I.1 t
  turned n (is_held held) (Some w) t I = kept_awaiting n w t held I.1

  pub sampled_kept : (c : Control) → c.owed ≡ false → Kept ear p l c
      → KeptBy ear p l (record { control = control_of (sampled p (ear (c.sample + 1)) c); marks = sampled_marks p (ear (c.sample + 1)) c })
  unfolding sampled sampled_marks
  sampled_kept c e I =
      let J : Phase ear p l c.sample (held_in c.candidate) c.wait false = subst (Phase ear p l c.sample (held_in c.candidate) c.wait) e I in
      subst (λ (o : Bool). KeptBy ear p l (record {
        control = control_of (comes_to p (ear (c.sample + 1)) (waited_turn c.wait (controlled c.candidate c.wait (cleared (c.sample + 1) c.dcd) o (c.sample + 1))));
        marks = waited_marks p (ear (c.sample + 1)) c.wait (controlled c.candidate c.wait (cleared (c.sample + 1) c.dcd) o (c.sample + 1));
      })) (sym e) (turned c.sample (held_or_not c.candidate) c.wait (cleared (c.sample + 1) c.dcd) J)

  -- a reply is owed only while nothing is open
  pub owing_idle : (n : ℕ) {candidate : Candidate} → HeldOrNot candidate → (wait : Option Waiting) → Phase ear p l n (held_in candidate) wait true → (candidate ≡ Nothing) × (wait ≡ None) × Idle ear p l n
  owing_idle n not_held None I = (refl, refl, I)
  owing_idle n not_held (Some w) I = absurd I
  owing_idle n (is_held held) None I = absurd (true≢false I.0)
  owing_idle n (is_held held) (Some w) I = absurd (true≢false I.0)

  abbrev reply_step : Reply → Control → Step
  reply_step r c = record { control = replied p (ear c.sample) r c; marks = replied_marks p (ear c.sample) r c }

  replied_idle : (r : Reply) (n : ℕ) (t : Option ℕ) (o : Bool) → Idle ear p l n → KeptBy ear p l (reply_step r (controlled Nothing None t o n))
  unfolding replied replied_marks
  replied_idle Accepted n t o I = subst (λ (m : List Mark). Idle ear p m n) (sym (append-nil l)) I
  replied_idle Rejected n t o I = search_idle ear p alone l n t I

  -- a reply, while one is owed
  pub replied_kept : (r : Reply) (c : Control) → c.owed ≡ true → Kept ear p l c → KeptBy ear p l (reply_step r c)
  replied_kept r c e I =
      let (h, w, J) = owing_idle c.sample (held_or_not c.candidate) c.wait (subst (Phase ear p l c.sample (held_in c.candidate) c.wait) e I) in
      subst (λ (x : Candidate). KeptBy ear p l (reply_step r (controlled x c.wait c.dcd c.owed c.sample))) (sym h)
      (subst (λ (x : Option Waiting). KeptBy ear p l (reply_step r (controlled Nothing x c.dcd c.owed c.sample))) (sym w) (replied_idle r c.sample c.dcd c.owed J))

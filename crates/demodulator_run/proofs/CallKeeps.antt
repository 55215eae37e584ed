-- A call adds what it accepts to the samples, counts it, and keeps the invariant. Assumes nothing.
use mathlib.Core.Path.{◌≡◌, refl, sym, ap, ◌∙◌, subst}
use mathlib.Core.Bool.{Bool, true, false, not, cond}
use mathlib.Core.List.{List, [], ◌∷◌, ◌++◌, append-nil, append_assoc}
use Prim.Native.Nat.{ℕ, ◌+◌, ◌-◌, ◌*◌, ◌^◌}
use native.Mathlib.Omega.{arith}
use borrow.Author.Tests.{not-false}
use lib.Dec.{eqb, ltb}
use lib.IntN.{ℤ}
use lib.ListN.{length, length-append}
use lib.Seq.{take_at}
use lib.Ieee.{Float}
use Rattle.machine.specs.Runs.{run}
use Rattle.search.specs.declared.Reply.{Reply}
use Rattle.search.specs.Turn.{Outcome, quiet, offer, control_of, sampled, replied}
use Rattle.demodulator.specs.Spans.{eight}
use Rattle.demodulator.specs.Calls.{done}
use Rattle.demodulator_run.specs.Filter.{filtered, ago}
use Rattle.demodulator_run.specs.Rules.{Single, sample, reply, query, History, After, refused, settled, admitted, given, answered, single, single_rules}
use Rattle.demodulator_run.specs.Marks.{Mark, is_refusal, sampled_marks, replied_marks, step_marks, called_marks}
use Rattle.demodulator_run.specs.Demands.{SymbolSize, Ear, ear_of, Alone, NotAgain}
use Rattle.demodulator_run.proofs.Phase.{Kept}
use Rattle.demodulator_run.proofs.TurnKeeps.{sampled_kept, replied_kept}
use Rattle.demodulator_run.proofs.Count.{sampled_count, replied_count}

module _ (table : List Float) (p : ℕ) where
  -- what is heard at the newest of some samples, in a run that goes on
  pub ear_now : (xs more : List ℤ) → ear_of table p (xs ++ more) (length xs) ≡ eight p (ago table p xs)
  ear_now xs more = ap {B = ℕ → Float} (λ (zs : List ℤ). λ (i : ℕ). filtered table p zs (length xs - p * (7 - i))) (take_at xs more (length xs) refl)

  abbrev pub Counted : History → Type 0
  Counted h = h.control.sample ≡ length h.samples

  -- ---- a call adds samples at the end
  pub settled_samples : (xs : List ℤ) (room : List Float) (o : Outcome) → (settled table p xs room o).history.samples ≡ xs
  unfolding settled
  settled_samples xs room (quiet c) = refl
  settled_samples xs room (offer shown c) = refl

  abbrev pub Extends : History → History → Type 0
  Extends h h' = (more : List ℤ) × (h'.samples ≡ h.samples ++ more)

  same : (h : History) → Extends h h
  same h = ([], sym (append-nil h.samples))

  extends_if : (h : History) (b : Bool) (x y : After) → Extends h x.history → Extends h y.history → Extends h (cond b x y).history
  extends_if h true x y u v = u
  extends_if h false x y u v = v

  called_extends : (h : History) (c : Single) → Extends h (single table p h c).history
  unfolding single given answered
  called_extends h (sample x room) =
      let xs : List ℤ = h.samples ++ (x ∷ []) in
      let e : Extends h (admitted table p h x room).history = (x ∷ [], settled_samples xs room (sampled p (eight p (ago table p xs)) h.control)) in
      extends_if h h.control.owed _ _ (same h) (extends_if h (ltb (length room) 192) _ _ (same h) (extends_if h (eqb h.control.sample (2 ^ 63)) _ _ (same h) e))
  called_extends h (reply r) = extends_if h (not h.control.owed) _ _ (same h) (([], sym (append-nil h.samples)))
  called_extends h query = same h

  pub heard_extends : (h : History) (cs : List Single) → Extends h (run (single_rules table p) h cs)
  unfolding run
  heard_extends h [] = same h
  heard_extends h (c ∷ cs) =
      let (m, e) = called_extends h c in
      let (m', f) = heard_extends (single table p h c).history cs in
      (m ++ m', f ∙ ap (λ (xs : List ℤ). xs ++ m') e ∙ append_assoc h.samples m m')

  -- ---- a call keeps the invariant
  module _ (ear : Ear) (big : SymbolSize p) (alone : Alone ear) (again : NotAgain ear p) (l : List Mark) where
    -- what a call came to, with the marks that it would make if it is admitted
    abbrev Good : List Mark → After → Type 0
    Good marks a = Kept ear p (l ++ cond (is_refusal a.said.answer) [] marks) a.history.control × Counted a.history

    -- the ear agrees with what is heard then
    abbrev pub Agrees : List ℤ → Type 0
    Agrees xs = ear (length xs) ≡ eight p (ago table p xs)

    good_if : (marks : List Mark) (b : Bool) (x y : After) → (b ≡ true → Agrees x.history.samples → Good marks x) → (b ≡ false → Agrees y.history.samples → Good marks y)
        → Agrees (cond b x y).history.samples → Good marks (cond b x y)
    good_if marks true x y u v e = u refl e
    good_if marks false x y u v e = v refl e

    module _ (h : History) (I : Kept ear p l h.control) (n : Counted h) where
      good_refused : (marks : List Mark) (number : ℕ) (room : List Float) → Good marks (refused number room h)
      good_refused marks number room = (subst (λ (m : List Mark). Kept ear p m h.control) (sym (append-nil l)) I, n)

      good_settled : (marks : List Mark) (xs : List ℤ) (room : List Float) (o : Outcome) → Kept ear p (l ++ marks) (control_of o) → (control_of o).sample ≡ length xs → Good marks (settled table p xs room o)
      unfolding settled
      good_settled marks xs room (quiet c) k e = (k, e)
      good_settled marks xs room (offer shown c) k e = (k, e)

      good_accepted : (x : ℤ) (room : List Float) → h.control.owed ≡ false → Agrees (h.samples ++ (x ∷ []))
          → Good (step_marks table p h (sample x room)) (admitted table p h x room)
      unfolding step_marks
      good_accepted x room o e =
          let xs : List ℤ = h.samples ++ (x ∷ []) in
          let m : h.control.sample + 1 ≡ length (h.samples ++ (x ∷ [])) = omega (arith, n, length-append h.samples (x ∷ [])) in
          let f : ear (h.control.sample + 1) ≡ eight p (ago table p (h.samples ++ (x ∷ []))) = ap ear m ∙ e in
          good_settled (sampled_marks p (eight p (ago table p xs)) h.control) xs room (sampled p (eight p (ago table p xs)) h.control)
          (subst (λ (v : ℕ → Float). Kept ear p (l ++ sampled_marks p v h.control) (control_of (sampled p v h.control))) f (sampled_kept ear p big alone again l h.control o I))
          (sampled_count p (eight p (ago table p xs)) h.control ∙ m)

      good_replied : (r : Reply) → h.control.owed ≡ true → Agrees h.samples
          → Good (step_marks table p h (reply r)) (record {
            said = record { answer = done; room = [] };
            history = record { samples = h.samples; control = replied p (eight p (ago table p h.samples)) r h.control };
          })
      unfolding step_marks
      good_replied r o e =
          let f : ear h.control.sample ≡ eight p (ago table p h.samples) = ap ear n ∙ e in (
            subst (λ (v : ℕ → Float). Kept ear p (l ++ replied_marks p v r h.control) (replied p v r h.control)) f (replied_kept ear p big alone again l r h.control o I),
            replied_count p (eight p (ago table p h.samples)) r h.control ∙ n,
          )

      -- past a test for a refusal
      abbrev past4 : ℤ → List Float → After
      past4 x room = cond (eqb h.control.sample (2 ^ 63)) (refused 5 room h) (admitted table p h x room)

      abbrev past2 : ℤ → List Float → After
      past2 x room = cond (ltb (length room) 192) (refused 4 room h) (past4 x room)

      good_called : (c : Single) → Agrees (single table p h c).history.samples → Good (step_marks table p h c) (single table p h c)
      unfolding single given answered step_marks
      good_called (sample x room) =
          let xs : List ℤ = h.samples ++ (x ∷ []) in
          let marks : List Mark = step_marks table p h (sample x room) in
          good_if marks h.control.owed (refused 2 room h) (past2 x room) (λ o e. good_refused marks 2 room) (λ o.
          good_if marks (ltb (length room) 192) (refused 4 room h) (past4 x room) (λ b e. good_refused marks 4 room) (λ b.
          good_if marks (eqb h.control.sample (2 ^ 63)) (refused 5 room h) (admitted table p h x room) (λ m e. good_refused marks 5 room) (λ m e.
          good_accepted x room o (subst Agrees (settled_samples xs room (sampled p (eight p (ago table p xs)) h.control)) e))))
      good_called (reply r) =
          let marks : List Mark = step_marks table p h (reply r) in
          good_if marks (not h.control.owed) _ _ (λ o e. good_refused marks 3 []) (λ o e. good_replied r (not-false h.control.owed o) e)
      good_called query = λ e. good_quiet
        where
          good_quiet : Good (step_marks table p h query) (single table p h query)
          good_quiet = (subst (λ (m : List Mark). Kept ear p m h.control) (sym (append-nil l)) I, n)

      pub called_kept : (c : Single) → Agrees (single table p h c).history.samples → Kept ear p (l ++ called_marks table p h c) (single table p h c).history.control × Counted (single table p h c).history
      unfolding called_marks
      called_kept c e = good_called c e

-- Each mark is in the log exactly when the rules say so. Assumes nothing.
use mathlib.Core.Path.{◌≡◌, refl, sym, ap, ◌∙◌, subst}
use mathlib.Core.Logic.{◌⊎◌, inl, inr, ◌↔◌}
use mathlib.Core.Bool.{Bool, true, false, not, cond, true≢false}
use mathlib.Core.List.Memᴰ
use mathlib.Core.List.{List, [], ◌∷◌, ◌++◌}
use Prim.Native.Nat.{ℕ, ◌+◌, ◌^◌}
use native.Mathlib.Omega.{arith}
use borrow.Author.Tests.{not-false}
use lib.Dec.{eqb, ltb}
use lib.IntN.{ℤ}
use lib.ListN.{length, length-append}
use lib.Ieee.{Float}
use Rattle.machine.specs.Runs.{run}
use Rattle.search.specs.declared.Reply.{Reply}
use Rattle.search.specs.Turn.{sampled}
use Rattle.search.proofs.HeldOrNot.{held_or_not}
use Rattle.demodulator.specs.Spans.{eight}
use Rattle.demodulator_run.specs.Filter.{ago}
use Rattle.demodulator_run.specs.Rules.{Single, sample, reply, query, History, After, start, refused, admitted, given, answered, single, history_all, single_rules}
use Rattle.demodulator_run.specs.Marks.{Mark, is_refusal, sampled_marks, replied_marks, step_marks, called_marks, log_from, log_all}
use Rattle.demodulator_run.specs.Demands.{SymbolSize, Ear, ear_of, Alone, NotAgain, In}
use Rattle.demodulator_run.specs.Exact.{ByRules, MarkedAt}
use Rattle.demodulator_run.proofs.CallKeeps.{settled_samples}
use Rattle.demodulator_run.proofs.Run.{On, heard_now, on_split, on_start}
use Rattle.demodulator_run.proofs.SearchExact.{Exactly}
use Rattle.demodulator_run.proofs.StepExact.{nothing_exact, no_sample, sample_exact, reply_exact}

module _ (table : List Float) (p : ℕ) where
  -- ---- the log is made of the calls' marks
  abbrev Found : Mark → History → List Single → Type 0
  Found y h cs = (before : List Single) × (call : Single) × (after : List Single) × (cs ≡ before ++ (call ∷ after)) × In y (called_marks table p (run (single_rules table p) h before) call)

  logged : (y : Mark) (h : History) (cs : List Single) → In y (log_from table p h cs) → Found y h cs
  unfolding log_from run
  logged y h [] i = absurd (Memᴰ.not-nil i)
  logged y h (c ∷ cs) i = later (λ j. logged y (single table p h c).history cs j) (Memᴰ.append_cases (called_marks table p h c) i)
    where
      later : (In y (log_from table p (single table p h c).history cs) → Found y (single table p h c).history cs)
          → In y (called_marks table p h c) ⊎ In y (log_from table p (single table p h c).history cs) → Found y h (c ∷ cs)
      later more (inl j) = ([], c, cs, refl, j)
      later more (inr j) = let (b, d, a, e, k) = more j in (c ∷ b, d, a, ap (λ (l : List Single). c ∷ l) e, k)

  in_log : (y : Mark) (h : History) (before : List Single) (call : Single) (after : List Single) → In y (called_marks table p (run (single_rules table p) h before) call) → In y (log_from table p h (before ++ (call ∷ after)))
  unfolding log_from run
  in_log y h [] call after i = Memᴰ.append_left (log_from table p (single table p h call).history after) i
  in_log y h (c ∷ before) call after i = Memᴰ.append_right (called_marks table p h c) (in_log y (single table p h c).history before call after i)

  -- ---- what an admitted call was
  module _ (h : History) where
    pub not_refused : (P : After → Type 0) (b : Bool) (number : ℕ) (room : List Float) (a : After) → (b ≡ false → is_refusal a.said.answer ≡ false → P a)
        → is_refusal (cond b (refused number room h) a).said.answer ≡ false → P (cond b (refused number room h) a)
    not_refused P true number room a f e = absurd (true≢false e)
    not_refused P false number room a f e = f refl e

    pub admitted_given : (x : ℤ) (room : List Float) → is_refusal (given table p h x room).said.answer ≡ false → (given table p h x room).history.samples ≡ h.samples ++ (x ∷ [])
    unfolding given
    admitted_given x room =
        let P : After → Type 0 = λ a. a.history.samples ≡ h.samples ++ (x ∷ []) in
        not_refused P h.control.owed 2 room _ λ o.
        not_refused P (ltb (length room) 192) 4 room _ λ b.
        not_refused P (eqb h.control.sample (2 ^ 63)) 5 room (admitted table p h x room) λ m e.
        settled_samples table p (h.samples ++ (x ∷ [])) room (sampled p (eight p (ago table p (h.samples ++ (x ∷ [])))) h.control)

    pub admitted_answered : (r : Reply) → is_refusal (answered table p h r).said.answer ≡ false → (h.control.owed ≡ true) × ((answered table p h r).history.samples ≡ h.samples)
    unfolding answered
    admitted_answered r =
        let P : After → Type 0 = λ a. (h.control.owed ≡ true) × (a.history.samples ≡ h.samples) in
        not_refused P (not h.control.owed) 3 [] _ λ o e. (not-false h.control.owed o, refl)

  -- ---- a call
  module _ (ear : Ear) (alone : Alone ear) (h : History) (after : List Single) (l : List Mark) where
    step_exact : (call : Single) → On table p ear h (call ∷ after) l → is_refusal (single table p h call).said.answer ≡ false → Exactly (λ (y : Mark). ByRules ear y h call) (step_marks table p h call)
    unfolding single step_marks
    step_exact (sample x room) O e =
        let xs : List ℤ = h.samples ++ (x ∷ []) in
        let n : h.control.sample + 1 ≡ length (h.samples ++ (x ∷ [])) = let c = O.counted in omega (arith, length-append h.samples (x ∷ [])) in
        let f : ear (length (h.samples ++ (x ∷ []))) ≡ eight p (ago table p (h.samples ++ (x ∷ []))) =
        subst (λ (zs : List ℤ). ear (length zs) ≡ eight p (ago table p zs)) (admitted_given h x room e) (heard_now table p ear h (sample x room) after O.hears) in
        subst (λ (v : ℕ → Float). Exactly (λ (y : Mark). ByRules ear y h (sample x room)) (sampled_marks p v h.control)) (ap ear n ∙ f)
        (sample_exact ear p alone h.samples h.control.dcd h.control.owed h.control.sample x room l (held_or_not h.control.candidate) h.control.wait O.kept)
    step_exact (reply r) O e =
        let (o, s) = admitted_answered h r e in
        let f : ear (length h.samples) ≡ eight p (ago table p h.samples) =
        subst (λ (zs : List ℤ). ear (length zs) ≡ eight p (ago table p zs)) s (heard_now table p ear h (reply r) after O.hears) in
        subst (λ (v : ℕ → Float). Exactly (λ (y : Mark). ByRules ear y h (reply r)) (replied_marks p v r h.control)) (ap ear O.counted ∙ f)
        (reply_exact ear p alone h.samples h.control.dcd h.control.owed h.control.sample l r (held_or_not h.control.candidate) h.control.wait o O.kept)
    step_exact query O e = nothing_exact ear h query (λ c s. s) (no_sample ear h query (λ x room q. let z : ◌≡◌ {A = ℕ} 0 1 = cc in omega arith))

    call_exact : (call : Single) → On table p ear h (call ∷ after) l → (y : Mark)
        → (In y (called_marks table p h call) → (is_refusal (single table p h call).said.answer ≡ false) × ByRules ear y h call)
        × (is_refusal (single table p h call).said.answer ≡ false → ByRules ear y h call → In y (called_marks table p h call))
    unfolding called_marks
    call_exact call O y = go (is_refusal (single table p h call).said.answer) (step_exact call O)
      where
        go : (b : Bool) → (b ≡ false → Exactly (λ (y : Mark). ByRules ear y h call) (step_marks table p h call))
            → (In y (cond b [] (step_marks table p h call)) → (b ≡ false) × ByRules ear y h call) × (b ≡ false → ByRules ear y h call → In y (cond b [] (step_marks table p h call)))
        go true E = (λ i. absurd (Memᴰ.not-nil i), λ e. absurd (true≢false e))
        go false E = (λ i. (refl, (E refl y).0 i), λ e. (E refl y).1)

  -- ---- the log
  module _ (big : SymbolSize p) (cs : List Single) (alone : Alone (ear_of table p (history_all table p cs).samples)) (again : NotAgain (ear_of table p (history_all table p cs).samples) p) (y : Mark) where
    abbrev ear : Ear
    ear = ear_of table p (history_all table p cs).samples

    pub at_call : (before : List Single) (call : Single) (after : List Single) → cs ≡ before ++ (call ∷ after) → (m : List Mark) × On table p ear (run (single_rules table p) start before) (call ∷ after) m
    at_call before call after e = on_split table p ear big alone again start before call after [] (subst (λ (l : List Single). On table p ear start l []) e (on_start table p cs))

    marked : In y (log_all table p cs) → MarkedAt table p ear y start cs
    marked i =
        let (b, c, a, e, j) = logged y start cs i in
        let (m, O) = at_call b c a e in
        let (r, s) = (call_exact ear alone (run (single_rules table p) start b) a m c O y).0 j in
        record { before = b; call = c; after = a; split = e; admitted = r; rules = s }

    stands : MarkedAt table p ear y start cs → In y (log_all table p cs)
    stands M =
        let (m, O) = at_call M.before M.call M.after M.split in
        subst (λ (l : List Single). In y (log_from table p start l)) (sym M.split)
        (in_log y start M.before M.call M.after ((call_exact ear alone (run (single_rules table p) start M.before) M.after m M.call O y).1 M.admitted M.rules))

    pub log_exact : In y (log_all table p cs) ↔ MarkedAt table p ear y start cs
    log_exact = (marked, stands)

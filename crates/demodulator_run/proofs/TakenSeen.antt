-- A candidate that is held after a call and was not before it is marked as taken, by the rules. Assumes nothing.
use Rattle.std.specs.Prelude.{Option, Some, None}
use mathlib.Core.Path.{◌≡◌, refl, sym, ap, subst, ◌∙◌}
use mathlib.Core.Logic.{◌⊎◌, inl, inr}
use mathlib.Core.Bool.{true, false, not, false≢true}
use mathlib.Core.List.{List, [], ◌∷◌, ◌++◌}
use Prim.Native.Nat.{ℕ, ◌+◌, ◌^◌}
use native.Mathlib.Omega.{arith}
use lib.Dec.{T, eqb, ltb}
use lib.IntN.{ℤ}
use lib.ListN.{length, length-append}
use lib.Ieee.{Float, lt}
use lib.Ieee.Bits.{is_true}
use Rattle.protocol.specs.declared.Kind.{Kind}
use Rattle.protocol.specs.declared.Kind.TheVariants.{Lsf, Bert, Stream, Packet}
use Rattle.protocol.specs.declared.SyncBurst.TheVariants.{Frame, Preamble, EndOfTransmission}
use Rattle.decode.specs.Correlator.{matches}
use Rattle.search.specs.declared.Candidate.{Candidate}
use Rattle.search.specs.declared.Candidate.TheVariants.{Nothing}
use Rattle.search.specs.declared.Waiting.{Waiting}
use Rattle.search.specs.declared.Control.{Control}
use Rattle.search.specs.declared.Reply.{Reply}
use Rattle.search.specs.declared.Reply.TheVariants.{Accepted, Rejected}
use Rattle.search.specs.TakenBurst.{TakenBurst, held_in}
use Rattle.search.specs.Search.{carried, matched as hits, tried, passed, searched}
use Rattle.search.specs.Turn.{Outcome, quiet, offer, control_of, counted, owing, sampled, replied}
use Rattle.search.specs.Fit.{held}
use Rattle.search.proofs.HeldOrNot.{HeldOrNot, not_held, is_held, held_or_not}
use Rattle.search.proofs.AgeInPass.{by_test, carried_candidate, missed_keeps}
use Rattle.search.proofs.Silent.{passed_silent}
use Rattle.demodulator.specs.Spans.{eight}
use Rattle.search.proofs.SampleByWait.{sampled_free}
use Rattle.demodulator_run.specs.Filter.{ago}
use Rattle.demodulator_run.specs.Rules.{Single, sample, reply, query, History, After, settled, admitted, given, answered, single, history_all}
use Rattle.demodulator_run.specs.Marks.{First, is_refusal, log_all}
use Rattle.demodulator_run.specs.Demands.{SymbolSize, Ear, ear_of, Matches, Alone, NotAgain, Started}
use Rattle.demodulator_run.specs.Exact.{Searches}
use Rattle.demodulator_run.proofs.KindOrder.{same_self, heard}
use Rattle.demodulator_run.proofs.Count.{sampled_count, replied_count}
use Rattle.demodulator_run.proofs.Run.{heard_now}
use Rattle.demodulator_run.proofs.LogExact.{not_refused, admitted_given, admitted_answered, at_call, log_exact}

-- ---- a search
module _ (p : ℕ) (v : ℕ → Float) (alone : (j k : Kind) → T (matches (Frame j) v) → T (matches (Frame k) v) → j ≡ k) where
  search_takes : (c : Control) → c.candidate ≡ Nothing → held (searched p v c).candidate ≡ true → (k : Kind) × T (matches (Frame k) v)
  unfolding searched
  search_takes c free holds =
      let b : Control = carried p EndOfTransmission v (carried p Preamble v c) in
      let same : b.candidate ≡ Nothing = carried_candidate p EndOfTransmission v _ ∙ carried_candidate p Preamble v c ∙ free in
      elim (heard v alone) [
        | inl q ↦ absurd (false≢true (sym (ap (λ (d : Control). held d.candidate) (passed_silent p v b q same) ∙ ap held same) ∙ holds))
        | inr q ↦ (q.0, subst T (sym (q.1 q.0)) (same_self q.0))
      ]

  -- and back: a kind that matches is held after the search
  matched_holds : {candidate : Candidate} → HeldOrNot candidate → (new : TakenBurst) (c : Control) → T (held (hits (held_in candidate) new c).candidate)
  unfolding hits
  matched_holds not_held new c = tt
  matched_holds (is_held t) new c = by_test (λ (d : Control). T (held d.candidate)) (lt t.diff new.diff) _ _ (λ e. tt) (λ e. tt)

  tried_holds : (kind : Kind) (c : Control) → T (matches (Frame kind) v) ⊎ T (held c.candidate) → T (held (tried p v kind c).candidate)
  unfolding tried
  tried_holds kind c h =
      by_test (λ (d : Control). T (held d.candidate)) (matches (Frame kind) v) _ _ (λ e. matched_holds (held_or_not c.candidate) _ c)
      (λ e. rw (missed_keeps p kind (held_in c.candidate) c).candidate (elim h [ inl m ↦ absurd (subst T e m) | inr i ↦ i ]))

  search_holds : (c : Control) (k : Kind) → T (matches (Frame k) v) → held (searched p v c).candidate ≡ true
  unfolding searched passed
  search_holds c Lsf m = is_true _ (tried_holds Packet _ (inr (tried_holds Stream _ (inr (tried_holds Bert _ (inr (tried_holds Lsf _ (inl m))))))))
  search_holds c Bert m = is_true _ (tried_holds Packet _ (inr (tried_holds Stream _ (inr (tried_holds Bert _ (inl m))))))
  search_holds c Stream m = is_true _ (tried_holds Packet _ (inr (tried_holds Stream _ (inl m))))
  search_holds c Packet m = is_true _ (tried_holds Packet _ (inl m))

-- ---- a sample: with no candidate held no wait is, and the search runs
free_of : (c : Control) → ((w : Waiting) → c.wait ≡ Some w → held c.candidate ≡ true) → c.candidate ≡ Nothing → (wait : Option Waiting) → c.wait ≡ wait → c.wait ≡ None
free_of c waits none None e = e
free_of c waits none (Some w) e = absurd (false≢true (sym (ap held none) ∙ waits w e))

module _ (p : ℕ) (v : ℕ → Float) (c : Control) (free : c.wait ≡ None) where
  sample_holds : held (control_of (sampled p v c)).candidate ≡ held (searched p v (counted c)).candidate
  sample_holds = ap (λ (o : Outcome). held (control_of o).candidate) (sampled_free p v c free)

-- ---- a call of a run
module _ (table : List Float) (p : ℕ) (big : SymbolSize p) (ss : List Single) (alone : Alone (ear_of table p (history_all table p ss).samples)) (again : NotAgain (ear_of table p (history_all table p ss).samples) p) where
  abbrev ear : Ear
  ear = ear_of table p (history_all table p ss).samples

  module _ (before : List Single) (after : List Single) where
    abbrev h : History
    h = history_all table p before

    settled_control : (xs : List ℤ) (room : List Float) (o : Outcome) → (settled table p xs room o).history.control ≡ control_of o
    unfolding settled
    settled_control xs room (quiet c) = refl
    settled_control xs room (offer shown c) = refl

    pub given_control : (x : ℤ) (room : List Float) → is_refusal (given table p h x room).said.answer ≡ false
        → (given table p h x room).history.control ≡ control_of (sampled p (eight p (ago table p (h.samples ++ (x ∷ [])))) h.control)
    unfolding given
    given_control x room =
        let xs : List ℤ = h.samples ++ (x ∷ []) in
        let v : ℕ → Float = eight p (ago table p (h.samples ++ (x ∷ []))) in
        let P : After → Type 0 = λ a. a.history.control ≡ control_of (sampled p (eight p (ago table p (h.samples ++ (x ∷ [])))) h.control) in
        not_refused table p h P h.control.owed 2 room _ λ o.
        not_refused table p h P (ltb (length room) 192) 4 room _ λ b.
        not_refused table p h P (eqb h.control.sample (2 ^ 63)) 5 room (admitted table p h x room) λ m e.
        settled_control xs room (sampled p v h.control)

    pub answered_control : (r : Reply) → is_refusal (answered table p h r).said.answer ≡ false → (answered table p h r).history.control ≡ replied p (eight p (ago table p h.samples)) r h.control
    unfolding answered
    answered_control r =
        let P : After → Type 0 = λ a. a.history.control ≡ replied p (eight p (ago table p h.samples)) r h.control in
        not_refused table p h P (not h.control.owed) 3 [] _ λ o e. refl

    started : (call : Single) → ss ≡ before ++ (call ∷ after) → is_refusal (single table p h call).said.answer ≡ false → (n : ℕ) (c : Control) → Searches h call c → n ≡ c.sample → c.candidate ≡ Nothing
        → ((k : Kind) × Matches ear k n) → Started (log_all table p ss) n
    started call e admitted n c s number free (k, m) =
        (k, (log_exact table p big ss alone again (First n k)).1 (record { before = before; call = call; after = after; split = e; admitted = admitted; rules = (c, s, (number, free, m)) }))

    -- what is heard at an admitted sample, and at a reply
    pub heard_sample : (x : ℤ) (room : List Float) (after : List Single) → ss ≡ before ++ (sample x room ∷ after) → is_refusal (given table p h x room).said.answer ≡ false
        → ear (h.control.sample + 1) ≡ eight p (ago table p (h.samples ++ (x ∷ [])))
    unfolding single
    heard_sample x room after e admitted =
        let (m, O) = at_call table p big ss alone again (First 0 Bert) before (sample x room) after e in
        let n : h.control.sample + 1 ≡ length (h.samples ++ (x ∷ [])) = let c = O.counted in omega (arith, length-append h.samples (x ∷ [])) in
        ap ear n ∙ subst (λ (zs : List ℤ). ear (length zs) ≡ eight p (ago table p zs)) (admitted_given table p h x room admitted) (heard_now table p ear h (sample x room) after O.hears)

    pub heard_reply : (r : Reply) (after : List Single) → ss ≡ before ++ (reply r ∷ after) → is_refusal (answered table p h r).said.answer ≡ false → ear h.control.sample ≡ eight p (ago table p h.samples)
    unfolding single
    heard_reply r after e admitted =
        let (m, O) = at_call table p big ss alone again (First 0 Bert) before (reply r) after e in
        let (owed, same) = admitted_answered table p h r admitted in
        ap ear O.counted ∙ subst (λ (zs : List ℤ). ear (length zs) ≡ eight p (ago table p zs)) same (heard_now table p ear h (reply r) after O.hears)

    heard_alone : (n : ℕ) (v : ℕ → Float) → ear n ≡ v → (j k : Kind) → T (matches (Frame j) v) → T (matches (Frame k) v) → j ≡ k
    heard_alone n v f = subst (λ (u : ℕ → Float). (j k : Kind) → T (matches (Frame j) u) → T (matches (Frame k) u) → j ≡ k) f (λ j k. alone j k n)

    -- what is heard at sample n has a match where a search takes one
    matched : (n : ℕ) (v : ℕ → Float) → ear n ≡ v → (c : Control) → c.candidate ≡ Nothing → held (searched p v c).candidate ≡ true → (k : Kind) × Matches ear k n
    matched n v f c free holds =
        let (k, m) = search_takes p v (heard_alone n v f) c free holds in
        (k, subst (λ (u : ℕ → Float). T (matches (Frame k) u)) (sym f) m)

    pub taken_started : (call : Single) → ss ≡ before ++ (call ∷ after) → is_refusal (single table p h call).said.answer ≡ false → ((w : Waiting) → h.control.wait ≡ Some w → held h.control.candidate ≡ true)
        → h.control.candidate ≡ Nothing → held (single table p h call).history.control.candidate ≡ true → Started (log_all table p ss) (single table p h call).history.control.sample
    unfolding single replied
    taken_started (sample x room) e admitted waits none holds =
        let v : ℕ → Float = eight p (ago table p (h.samples ++ (x ∷ []))) in
        let c = given_control x room admitted in
        let free = free_of h.control waits none h.control.wait refl in
        subst (Started (log_all table p ss)) (sym (ap (λ (d : Control). d.sample) c ∙ sampled_count p v h.control))
        (started (sample x room) e admitted (h.control.sample + 1) (counted h.control) (free, refl) refl none
        (matched (h.control.sample + 1) v (heard_sample x room after e admitted) (counted h.control) none
        (sym (sample_holds p v h.control free) ∙ sym (ap (λ (d : Control). held d.candidate) c) ∙ holds)))
    taken_started (reply Accepted) e admitted waits none holds =
        absurd (false≢true (sym (ap held none) ∙ sym (ap (λ (d : Control). held d.candidate) (answered_control Accepted admitted)) ∙ holds))
    taken_started (reply Rejected) e admitted waits none holds =
        let v : ℕ → Float = eight p (ago table p h.samples) in
        let c = answered_control Rejected admitted in
        subst (Started (log_all table p ss)) (sym (ap (λ (d : Control). d.sample) c ∙ replied_count p v Rejected h.control))
        (started (reply Rejected) e admitted h.control.sample (owing false h.control) refl refl none
        (matched h.control.sample v (heard_reply Rejected after e admitted) (owing false h.control) none (sym (ap (λ (d : Control). held d.candidate) c) ∙ holds)))
    taken_started query e admitted waits none holds = absurd (false≢true (sym (ap held none) ∙ holds))

    -- and back
    pub started_taken : (call : Single) → ss ≡ before ++ (call ∷ after) → is_refusal (single table p h call).said.answer ≡ false
        → (n : ℕ) (c : Control) → Searches h call c → n ≡ c.sample → c.candidate ≡ Nothing → (k : Kind) → Matches ear k n
        → (h.control.candidate ≡ Nothing) × (held (single table p h call).history.control.candidate ≡ true) × ((single table p h call).history.control.sample ≡ n)
    unfolding single replied
    started_taken (sample x room) e admitted n c s number free k m =
        let v : ℕ → Float = eight p (ago table p (h.samples ++ (x ∷ []))) in
        let d = given_control x room admitted in
        let counts : c.sample ≡ h.control.sample + 1 = ap (λ (b : Control). b.sample) s.1 in
        let f : ear n ≡ v = ap ear (number ∙ counts) ∙ heard_sample x room after e admitted in
        let held_then = search_holds p v (heard_alone n v f) c k (subst (λ (u : ℕ → Float). T (matches (Frame k) u)) f m) in (
          sym (ap (λ (b : Control). b.candidate) s.1) ∙ free,
          ap (λ (b : Control). held b.candidate) d ∙ sample_holds p v h.control s.0 ∙ subst (λ (b : Control). held (searched p v b).candidate ≡ true) s.1 held_then,
          ap (λ (b : Control). b.sample) d ∙ sampled_count p v h.control ∙ sym (number ∙ counts),
        )
    started_taken (reply Accepted) e admitted n c s number free k m = absurd s
    started_taken (reply Rejected) e admitted n c s number free k m =
        let v : ℕ → Float = eight p (ago table p h.samples) in
        let d = answered_control Rejected admitted in
        let counts : c.sample ≡ h.control.sample = ap (λ (b : Control). b.sample) s in
        let f : ear n ≡ v = ap ear (number ∙ counts) ∙ heard_reply Rejected after e admitted in
        let held_then = search_holds p v (heard_alone n v f) c k (subst (λ (u : ℕ → Float). T (matches (Frame k) u)) f m) in (
          sym (ap (λ (b : Control). b.candidate) s) ∙ free,
          ap (λ (b : Control). held b.candidate) d ∙ subst (λ (b : Control). held (searched p v b).candidate ≡ true) s held_then,
          ap (λ (b : Control). b.sample) d ∙ replied_count p v Rejected h.control ∙ sym (number ∙ counts),
        )
    started_taken query e admitted n c s number free k m = absurd s

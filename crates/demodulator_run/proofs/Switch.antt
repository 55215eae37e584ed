-- A switch of kind without a wait goes to an earlier-listed kind: in the log, and in the control before a call and after it. Assumes nothing.
use Rattle.std.specs.Prelude.{None, Option, Some}
use mathlib.Core.Path.{◌≡◌, refl, sym, ap, ◌∙◌, subst, fun_ext}
use mathlib.Core.Logic.{inl, inr}
use mathlib.Core.Bool.{Bool, true, false, not, cond}
use mathlib.Core.List.{List, [], ◌∷◌, ◌++◌}
use Prim.Native.Nat.{ℕ, ◌^◌, ◌<◌}
use native.Mathlib.Omega.{arith}
use lib.Dec.{T, not_T, eqb, ltb}
use lib.IntN.{ℤ}
use lib.ListN.{length}
use lib.Ieee.{Float}
use Rattle.protocol.specs.declared.Kind.{Kind}
use Rattle.protocol.specs.declared.SyncBurst.TheVariants.{Frame}
use Rattle.decode.specs.Correlator.{correlation, matches}
use Rattle.search.specs.declared.Candidate.{Candidate}
use Rattle.search.specs.declared.Control.{Control}
use Rattle.search.specs.declared.Reply.{Reply}
use Rattle.search.specs.declared.Reply.TheVariants.{Accepted, Rejected}
use Rattle.search.specs.TakenBurst.{TakenBurst, held_as, held_in, older}
use Rattle.search.specs.Search.{rank, searched}
use Rattle.search.specs.Turn.{Outcome, quiet, offer, control_of, counted, waited_turn, sampled, replied}
use Rattle.search.proofs.HeldOrNot.{HeldOrNot, not_held, is_held, held_or_not}
use Rattle.demodulator.specs.Spans.{eight}
use Rattle.demodulator_run.specs.Filter.{ago}
use Rattle.demodulator_run.specs.Rules.{Single, sample, reply, query, History, After as Came, start, refused, settled, given, answered, single, history_all}
use Rattle.demodulator_run.specs.Marks.{Anew, Failed, log_all}
use Rattle.demodulator_run.specs.Demands.{SymbolSize, Ear, ear_of, Unmatched, Alone, NotAgain, In, SwitchEarlier, EarlierThan, SwitchHeld}
use Rattle.demodulator_run.specs.Exact.{MarkedAt}
use Rattle.demodulator_run.proofs.KindOrder.{Place, Before, Level, After, place, Placed, placed, heard}
use Rattle.demodulator_run.proofs.Pass.{Step, controlled, search_step, pass_by, search_pass, pass_lost, pass_hit, struck}
use Rattle.demodulator_run.proofs.Run.{On, heard_now, on_split, on_start}
use Rattle.demodulator_run.proofs.StepExact.{free_due}
use Rattle.demodulator_run.proofs.LogExact.{log_exact}

-- ---- a search
same_kind : (o : Option TakenBurst) → EarlierThan o o
same_kind None = tt
same_kind (Some held) = λ other. absurd (other refl)

abbrev OneAtMost : (ℕ → Float) → Type 0
OneAtMost v = (j k : Kind) → T (matches (Frame j) v) → T (matches (Frame k) v) → j ≡ k

module _ (p : ℕ) (v : ℕ → Float) (alone : OneAtMost v) where
  module _ (held : TakenBurst) (t : Option ℕ) (o : Bool) (n : ℕ) where
    abbrev Turns : Step → Type 0
    Turns s = s.control.wait ≡ None → EarlierThan (Some held) (held_in s.control.candidate)

    struck_turns : (u : Option ℕ) (j : Kind) (x : Place) → Placed x j held.kind → (b : Bool) → Turns (struck p (λ i. correlation (Frame i) v) u o n held (older held.age) x b j)
    struck_turns u j Before r true e = absurd (free_due (sym e))
    struck_turns u j Before r false e = λ other. r
    struck_turns u j Level r true e = same_kind (Some held)
    struck_turns u j Level r false e = λ other. absurd (other (sym r))
    struck_turns u j After r true e = absurd (free_due (sym e))
    struck_turns u j After r false e = absurd (free_due (sym e))

    held_turns : Turns (search_step p v (controlled (held_as held) None t o n))
    held_turns =
        let (u, e) = search_pass p v (controlled (held_as held) None t o n) in
        let run : (Kind → Bool) → Step = λ m. pass_by p m (λ i. correlation (Frame i) v) (controlled (held_as held) None u o n) in
        subst Turns (sym e) (elim (heard v alone) [
          | inl q ↦ subst Turns (sym (ap run (fun_ext q) ∙ pass_lost p (λ i. correlation (Frame i) v) u o n held)) (λ f. absurd (free_due (sym f)))
          | inr q ↦ subst Turns (sym (ap run (fun_ext q.1) ∙ pass_hit p (λ i. correlation (Frame i) v) u o n held q.0 _ refl)) (struck_turns u q.0 (place q.0 held.kind) (placed q.0 held.kind) _)
        ])

  search_turns : {candidate : Candidate} → HeldOrNot candidate → (t : Option ℕ) (o : Bool) (n : ℕ)
      → (searched p v (controlled candidate None t o n)).wait ≡ None → EarlierThan (held_in candidate) (held_in (searched p v (controlled candidate None t o n)).candidate)
  search_turns not_held t o n f = tt
  search_turns (is_held held) t o n f = held_turns held t o n f

  -- ---- a sample and a reply
  sampled_turns : (c : Control) → SwitchHeld c (control_of (sampled p v c))
  unfolding sampled waited_turn
  sampled_turns c e = rw e (search_turns (held_or_not c.candidate) (counted c).dcd c.owed (counted c).sample)

  replied_turns : (r : Reply) (c : Control) → SwitchHeld c (replied p v r c)
  unfolding replied
  replied_turns Accepted c e = λ f. same_kind (held_in c.candidate)
  replied_turns Rejected c e = rw e (search_turns (held_or_not c.candidate) c.dcd false c.sample)

-- ---- a call
module _ (table : List Float) (p : ℕ) (h : History) where
  -- where at most one kind matches in what was heard
  abbrev Turned : Came → Type 0
  Turned a = OneAtMost (eight p (ago table p a.history.samples)) → SwitchHeld h.control a.history.control

  turned_if : (b : Bool) (x y : Came) → Turned x → Turned y → Turned (cond b x y)
  turned_if true x y u w = u
  turned_if false x y u w = w

  turned_not : (number : ℕ) (room : List Float) → Turned (refused number room h)
  turned_not number room alone e f = same_kind (held_in h.control.candidate)

  turned_settled : (xs : List ℤ) (room : List Float) (o : Outcome) → (OneAtMost (eight p (ago table p xs)) → SwitchHeld h.control (control_of o)) → Turned (settled table p xs room o)
  unfolding settled
  turned_settled xs room (quiet c) s = s
  turned_settled xs room (offer shown c) s = s

  called_turns : (call : Single) → Turned (single table p h call)
  unfolding single given answered
  called_turns (sample x room) =
      let xs : List ℤ = h.samples ++ (x ∷ []) in
      turned_if h.control.owed _ _ (turned_not 2 room)
      (turned_if (ltb (length room) 192) _ _ (turned_not 4 room)
      (turned_if (eqb h.control.sample (2 ^ 63)) _ _ (turned_not 5 room)
      (turned_settled xs room (sampled p (eight p (ago table p xs)) h.control) (λ alone. sampled_turns p (eight p (ago table p xs)) alone h.control))))
  called_turns (reply r) = turned_if (not h.control.owed) _ _ (turned_not 3 []) (λ alone. replied_turns p (eight p (ago table p h.samples)) alone r h.control)
  called_turns query = λ alone e f. same_kind (held_in h.control.candidate)

-- ---- a run
module _ (table : List Float) (p : ℕ) (big : SymbolSize p) (cs : List Single) (alone : Alone (ear_of table p (history_all table p cs).samples)) (again : NotAgain (ear_of table p (history_all table p cs).samples) p) where
  abbrev ear : Ear
  ear = ear_of table p (history_all table p cs).samples

  -- kind k matched alone; where its turn comes after j's, j had failed before it
  fails_first : (n : ℕ) (j k : Kind) → rank j < rank k → In (Anew n j k) (log_all table p cs) → (b : ℕ) × In (Failed n j b) (log_all table p cs)
  fails_first n j k after i =
      let M : MarkedAt table p ear (Anew n j k) start cs = (log_exact table p big cs alone again (Anew n j k)).0 i in
      let (c, S, B) = M.rules in
      let (e, hit, D) = B in
      let (t, held, below) = D in
      let lost : Unmatched ear j n = not_T (matches (Frame j) (ear n)) (λ m. omega (arith, ap rank (alone j k n m hit))) in (
        t.taken_at,
        (log_exact table p big cs alone again (Failed n j t.taken_at)).1 (record {
          before = M.before;
          call = M.call;
          after = M.after;
          split = M.split;
          admitted = M.admitted;
          rules = (c, S, (e, lost, (t, held, (λ h r m. absurd (omega (arith, ap rank (alone h k n m hit)))), refl)));
        }),
      )

  pub switch_earlier : SwitchEarlier (log_all table p cs)
  switch_earlier n j k s free = go (place j k) (placed j k)
    where
      go : (o : Place) → Placed o j k → rank k < rank j
      go Before r = absurd (let f = fails_first n j k r s.0 in free (j, f.0, f.1))
      go Level r = absurd (s.1 r)
      go After r = r

  -- at any one of the calls
  pub switch_held : (before : List Single) (call : Single) (after : List Single) → cs ≡ before ++ (call ∷ after) → SwitchHeld (history_all table p before).control (single table p (history_all table p before) call).history.control
  switch_held before call after e =
      let O = (on_split table p ear big alone again start before call after [] (subst (λ (l : List Single). On table p ear start l []) e (on_start table p cs))).1 in
      let next : List ℤ = (single table p (history_all table p before) call).history.samples in
      let now = heard_now table p ear (history_all table p before) call after O.hears in
      called_turns table p (history_all table p before) call (subst OneAtMost now (λ j k. alone j k (length next)))

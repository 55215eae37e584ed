-- A search of a run, as a caller sees it: what is heard then, what it starts from and what it leaves; and that a mark of a take is a take that a caller sees. Assumes nothing.
use Rattle.std.specs.Prelude.{Option, Some, None}
use Rattle.search.specs.declared.Waiting.{Waiting}
use mathlib.Core.Path.{◌≡◌, refl, sym, ap, ◌∙◌, subst}
use mathlib.Core.Logic.{inl, inr}
use mathlib.Core.Bool.{true, false, true≢false}
use mathlib.Core.List.{List, ◌∷◌, ◌++◌}
use Prim.Native.Nat.{ℕ, ◌+◌}
use native.Mathlib.Omega.{arith}
use lib.Dec.{T}
use lib.Ieee.{Float}
use Rattle.machine.specs.Runs.{Each}
use Rattle.shaping.specs.Rate.{Rate}
use Rattle.shaping.proofs.RateFacts.{Facts}
use Rattle.protocol.specs.declared.Kind.{Kind}
use Rattle.protocol.specs.declared.Kind.TheVariants.{Bert}
use Rattle.protocol.specs.declared.SyncBurst.TheVariants.{Frame}
use Rattle.decode.specs.Correlator.{correlation, matches}
use Rattle.search.specs.declared.Candidate.{Candidate}
use Rattle.search.specs.declared.Candidate.TheVariants.{Nothing}
use Rattle.search.specs.declared.Control.{Control}
use Rattle.search.specs.declared.Reply.TheVariants.{Accepted, Rejected}
use Rattle.search.specs.TakenBurst.{TakenBurst, held_as, taken}
use Rattle.search.specs.Search.{searched}
use Rattle.search.specs.Turn.{control_of, counted, owing, replied}
use Rattle.search.proofs.Fitness.{ControlFacts}
use Rattle.search.proofs.AgeInPass.{searched_sample}
use Rattle.demodulator.proofs.Fitness.{record_facts}
use Rattle.search.proofs.SampleByWait.{sampled_free}
use Rattle.demodulator_run.specs.Rules.{Single, sample, reply, query, History, Said, start, single, history_all}
use Rattle.demodulator_run.specs.Marks.{Mark, First, Anew, is_refusal, log_all}
use Rattle.demodulator_run.specs.Demands.{Ear, Matches, Taken}
use Rattle.demodulator_run.specs.Exact.{Searches, MarkedAt}
use Rattle.demodulator_run.specs.Run.{Callable}
use Rattle.demodulator_run.specs.CallerSees.{Moment, control_at, left_then, Admitted}
use Rattle.demodulator_run.specs.OfferReports.{heard_then, TakeSeen}
use Rattle.demodulator_run.proofs.Demand.{ear_all}
use Rattle.demodulator_run.proofs.DemandAt.{size_at, alone_at, again_at, log_exact_at}
use Rattle.demodulator_run.proofs.Pass.{controlled}
use Rattle.demodulator_run.proofs.Run.{On, heard_now, on_next}
use Rattle.demodulator_run.proofs.LogExact.{admitted_answered, at_call}
use Rattle.demodulator_run.proofs.Step.{own_agrees, eight_read}
use Rattle.demodulator_run.proofs.SinglesRun.{singles_run, singles_fit}
use Rattle.demodulator_run.proofs.TakenSeen.{given_control, answered_control, heard_sample, heard_reply}
use Rattle.demodulator_run.proofs.SearchSets.{takes_first, takes_anew}
use Rattle.demodulator_run.proofs.CallerSees.{front, control_same, said_same, admitted, left_same}

-- a control whose candidate and wait are known
pub as_controlled : (P : Control → Type 0) (c : Control) (candidate : Candidate) (wait : Option Waiting) → c.candidate ≡ candidate → c.wait ≡ wait → P (controlled candidate wait c.dcd c.owed c.sample) → P c
as_controlled P c candidate wait e f q =
    subst (λ (h : Candidate). P (controlled h c.wait c.dcd c.owed c.sample)) (sym e)
    (subst (λ (w : Option Waiting). P (controlled candidate w c.dcd c.owed c.sample)) (sym f) q)

module _ (R : Rate) (F : Facts R) (ss : List Single) (sampled : Each Callable ss) where
  abbrev pub ear : Ear
  ear = ear_all R.taps R.p ss

  abbrev pub before : Moment ss → History
  before t = history_all R.taps R.p t.before

  -- the calls so far, and the invariant
  pub on_moment : (t : Moment ss) → (m : List Mark) × On R.taps R.p ear (before t) (t.call ∷ t.after) m
  on_moment t = at_call R.taps R.p (size_at R F) ss (alone_at R F ss sampled) (again_at R F ss sampled) (First 0 Bert) t.before t.call t.after t.split

  -- ---- the record's eight values are those of the samples that were admitted
  pub heard_then_lem : (t : Moment ss) → heard_then R t ≡ ear (left_then R t).demodulator.control.sample
  heard_then_lem t =
      let (m, O) = on_moment t in
      let next : History = (single R.taps R.p (before t) t.call).history in
      let N = on_next R.taps R.p ear (size_at R F) (alone_at R F ss sampled) (again_at R F ss sampled) (before t) t.call t.after m O in
      let a = own_agrees R F _ _ (singles_run R F t.before (front R F ss sampled t)).0 (singles_fit R F t.before (front R F ss sampled t)) t.call in
      eight_read R F (left_then R t).demodulator next.samples a.rings
      ∙ sym (heard_now R.taps R.p ear (before t) t.call t.after O.hears)
      ∙ ap ear (sym N.counted)
      ∙ ap (λ (c : Control). ear c.sample) (sym (left_same R F ss sampled t))

  -- ---- the search runs in the call, from the control c
  pub record SearchSeen (t : Moment ss) (c : Control) : Type 0 where
    pub wait : c.wait ≡ None
    pub free : (control_at R t).wait ≡ None
    pub candidate : (control_at R t).candidate ≡ c.candidate
    pub left : (left_then R t).demodulator.control ≡ searched R.p (ear c.sample) c
    -- only a sample finds a candidate held
    pub next : (u : TakenBurst) → c.candidate ≡ held_as u → c.sample ≡ (control_at R t).sample + 1

  facts : (t : Moment ss) → ControlFacts R.p (control_at R t)
  facts t = (record_facts R.p _ (singles_fit R F t.before (front R F ss sampled t)).for_query).control

  unowed_wait : (c : Control) → ControlFacts R.p c → c.owed ≡ true → (wait : Option Waiting) → c.wait ≡ wait → wait ≡ None
  unowed_wait c f o None e = refl
  unowed_wait c f o (Some w) e = absurd (true≢false (sym o ∙ (f.wait w e).no_reply))

  pub search_seen : (t : Moment ss) → Admitted R t → (c : Control) → Searches (before t) t.call c → SearchSeen t c
  unfolding single replied
  search_seen t adm c s = go t.call refl c s
    where
      go : (call : Single) → t.call ≡ call → (c : Control) → Searches (before t) call c → SearchSeen t c
      go (sample x room) e c s =
          let same = control_same R F ss sampled t in
          let split = t.split ∙ ap (λ (k : Single). t.before ++ (k ∷ t.after)) e in
          let passes = subst (λ (k : Single). is_refusal (single R.taps R.p (before t) k).said.answer ≡ false) e (admitted R F ss sampled t adm) in
          let big = size_at R F in
          let alone = alone_at R F ss sampled in
          let again = again_at R F ss sampled in
          let given = given_control R.taps R.p big ss alone again t.before t.after x room passes in
          let heard = heard_sample R.taps R.p big ss alone again t.before t.after x room t.after split passes in
          let left = left_same R F ss sampled t ∙ ap (λ (k : Single). (single R.taps R.p (before t) k).history.control) e in
          record {
            wait = ap (λ (d : Control). d.wait) s.1 ∙ s.0;
            free = ap (λ (d : Control). d.wait) same ∙ s.0;
            candidate = ap (λ (d : Control). d.candidate) same ∙ sym (ap (λ (d : Control). d.candidate) s.1);
            left = left ∙ given ∙ ap control_of (sampled_free R.p _ (before t).control s.0)
                ∙ ap (λ (v : ℕ → Float). searched R.p v (counted (before t).control)) (sym heard)
                ∙ ap (λ (d : Control). searched R.p (ear d.sample) d) (sym s.1);
            next = λ u h. ap (λ (d : Control). d.sample) s.1 ∙ sym (ap (λ (d : Control). d.sample + 1) same);
          }
      go (reply Accepted) e c s = absurd s
      go (reply Rejected) e c s =
          let same = control_same R F ss sampled t in
          let split = t.split ∙ ap (λ (k : Single). t.before ++ (k ∷ t.after)) e in
          let passes = subst (λ (k : Single). is_refusal (single R.taps R.p (before t) k).said.answer ≡ false) e (admitted R F ss sampled t adm) in
          let big = size_at R F in
          let alone = alone_at R F ss sampled in
          let again = again_at R F ss sampled in
          let owed : (control_at R t).owed ≡ true = ap (λ (d : Control). d.owed) same ∙ (admitted_answered R.taps R.p (before t) Rejected passes).0 in
          let free = unowed_wait (control_at R t) (facts t) owed (control_at R t).wait refl in
          let none = (facts t).reply owed in
          let given = answered_control R.taps R.p big ss alone again t.before t.after Rejected passes in
          let heard = heard_reply R.taps R.p big ss alone again t.before t.after Rejected t.after split passes in
          let left = left_same R F ss sampled t ∙ ap (λ (k : Single). (single R.taps R.p (before t) k).history.control) e in
          record {
            wait = ap (λ (d : Control). d.wait) s ∙ sym (ap (λ (d : Control). d.wait) same) ∙ free;
            free = free;
            candidate = ap (λ (d : Control). d.candidate) same ∙ sym (ap (λ (d : Control). d.candidate) s);
            left = left ∙ given
                ∙ ap (λ (v : ℕ → Float). searched R.p v (owing false (before t).control)) (sym heard)
                ∙ ap (λ (d : Control). searched R.p (ear d.sample) d) (sym s);
            next = λ u h.
                let clash : Nothing ≡ held_as u = sym none ∙ ap (λ (d : Control). d.candidate) same ∙ sym (ap (λ (d : Control). d.candidate) s) ∙ h in
                let z : ◌≡◌ {A = ℕ} 0 1 = cc in absurd (omega arith);
          }
      go query e c s = absurd s

  -- ---- the call of a mark
  abbrev pub marked_moment : {y : Mark} → MarkedAt R.taps R.p ear y start ss → Moment ss
  marked_moment M = record { before = M.before; call = M.call; after = M.after; split = M.split }

  pub seen_admitted : {y : Mark} (M : MarkedAt R.taps R.p ear y start ss) → Admitted R (marked_moment M)
  seen_admitted M = ap (λ (s : Said). is_refusal s.answer) (said_same R F ss sampled (marked_moment M)) ∙ M.admitted

  -- ---- a take that is marked is seen
  module _ (k : Kind) (n : ℕ) where
    take_by : (t : Moment ss) → Admitted R t → (c : Control) → SearchSeen t c → n ≡ c.sample → Matches ear k n
        → (searched R.p (ear n) c).candidate ≡ held_as (taken k (correlation (Frame k) (ear n)) n) → TakeSeen R ss k n
    take_by t adm c A number hit holds =
        let counts : (left_then R t).demodulator.control.sample ≡ n = ap (λ (d : Control). d.sample) A.left ∙ searched_sample R.p (ear c.sample) c ∙ sym number in
        let heard : ear n ≡ heard_then R t = ap ear (sym counts) ∙ sym (heard_then_lem t) in
        record {
          moment = t;
          admitted = adm;
          number = counts;
          matched = subst (λ (v : ℕ → Float). T (matches (Frame k) v)) heard hit;
          holds = ap (λ (d : Control). d.candidate) A.left ∙ ap (λ (i : ℕ). (searched R.p (ear i) c).candidate) (sym number) ∙ holds
              ∙ ap (λ (v : ℕ → Float). held_as (taken k (correlation (Frame k) v) n)) heard;
          new = λ u h.
              let next = A.next u (sym A.candidate ∙ h) in
              let within = (facts t).taken u h in
              omega (arith, within.1, next, number);
        }

    alone_then : (i j : Kind) → T (matches (Frame i) (ear n)) → T (matches (Frame j) (ear n)) → i ≡ j
    alone_then i j = alone_at R F ss sampled i j n

    pub take_seen : Taken (log_all R.taps R.p ss) n k → TakeSeen R ss k n
    take_seen (inl i) =
        let M = (log_exact_at R F ss sampled (First n k)).0 i in
        let (c, S, (number, none, hit)) = M.rules in
        let A = search_seen (marked_moment M) (seen_admitted M) c S in
        take_by (marked_moment M) (seen_admitted M) c A number hit
        (as_controlled (λ (d : Control). (searched R.p (ear n) d).candidate ≡ held_as (taken k (correlation (Frame k) (ear n)) n)) c Nothing None none A.wait
        (subst (λ (i : ℕ). (searched R.p (ear n) (controlled Nothing None c.dcd c.owed i)).candidate ≡ held_as (taken k (correlation (Frame k) (ear n)) n)) number
        (takes_first R.p (ear n) alone_then c.dcd c.owed n k hit)))
    take_seen (inr (j, i)) =
        let M = (log_exact_at R F ss sampled (Anew n j k)).0 i in
        let (c, S, (number, hit, (u, held, below))) = M.rules in
        let A = search_seen (marked_moment M) (seen_admitted M) c S in
        take_by (marked_moment M) (seen_admitted M) c A number hit
        (as_controlled (λ (d : Control). (searched R.p (ear n) d).candidate ≡ held_as (taken k (correlation (Frame k) (ear n)) n)) c (held_as u) None held.0 A.wait
        (subst (λ (i : ℕ). (searched R.p (ear n) (controlled (held_as u) None c.dcd c.owed i)).candidate ≡ held_as (taken k (correlation (Frame k) (ear n)) n)) number
        (takes_anew R.p (ear n) alone_then c.dcd c.owed n u k hit below)))

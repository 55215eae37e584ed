-- Demand 3 by what a caller sees, at a rate, over every list of calls from a fresh record: samples, stretches, replies and queries in any order. Assumes nothing.
use Rattle.std.specs.Prelude.{Some}
use mathlib.Core.Path.{◌≡◌, refl, sym, ap, subst, ◌∙◌}
use mathlib.Core.Logic.{◌↔◌}
use mathlib.Core.Bool.{true, false}
use mathlib.Core.List.{List, ◌∷◌, Memᴰ}
use Prim.Native.Nat.{ℕ, ◌+◌, ◌-◌, ◌*◌, ◌≤◌}
use native.Mathlib.Omega.{arith}
use Rattle.machine.specs.Runs.{run, Each, answers}
use Rattle.machine.proofs.Parts.{each_front}
use Rattle.shaping.specs.Rate.{Rate, rate_of}
use Rattle.shaping.proofs.RateFacts.{Facts}
use Rattle.search.specs.declared.Waiting.{Waiting}
use Rattle.search.specs.declared.Shown.{Shown}
use Rattle.search.specs.declared.Control.{Control}
use Rattle.search.specs.TakenBurst.{TakenBurst, shown_of}
use Rattle.search.specs.Fit.{held}
use Rattle.demodulator.specs.declared.SoftDemodulator.{SoftDemodulator}
use Rattle.demodulator.specs.declared.Offer.{Offer}
use Rattle.demodulator.specs.Calls.{frame, offer_of}
use Rattle.demodulator.proofs.Fitness.{record_facts}
use Rattle.demodulator_run.specs.Rules.{Single, Said, single, history_all}
use Rattle.demodulator_run.specs.Run.{fresh_at, left, left_at, said_by, record_after, single_receiver, Callable}
use Rattle.demodulator_run.specs.Marks.{First, FellDue, is_refusal, log_all}
use Rattle.demodulator_run.specs.Demands.{In, Started, DueAt, DueWithin, AgeAtMost}
use Rattle.demodulator_run.specs.Exact.{HeldOf, last_sample}
use Rattle.demodulator_run.specs.Calls.{Call, receiver, Given, singles_from}
use Rattle.demodulator_run.specs.CallerSees.{Moment, control_at, left_then, Admitted, TakenSeen, DueSeen, DemandThree}
use Rattle.demodulator_run.proofs.DemandAt.{history_at, log_at, fed_at, size_at, alone_at, again_at, due_span_at, due_span_sharp_at, due_once_at, age_limit_at, age_limit_sharp_at, log_exact_at}
use Rattle.demodulator_run.proofs.Step.{own_agrees}
use Rattle.demodulator_run.proofs.SinglesRun.{singles_run, singles_fit, next_single}
use Rattle.demodulator_run.proofs.Singles.{offers_said, singles_record, singles_offers, singles_sampled}
use Rattle.demodulator_run.proofs.OfferSeen.{offer_out, offer_in_lem, sample_only, offers_seen, seen_offers}
use Rattle.demodulator_run.proofs.TakenSeen.{taken_started, started_taken}

module _ (R : Rate) (F : Facts R) where
  -- ---- a list of single calls
  module _ (ss : List Single) (sampled : Each Callable ss) where
    -- the record's moment, as the rules have it
    module _ (t : Moment ss) where
      pub front : Each Callable t.before
      front = each_front Callable t.before (t.call ∷ t.after) (subst (Each Callable) t.split sampled)

      pub control_same : control_at R t ≡ (history_all R.taps R.p t.before).control
      control_same = (singles_run R F t.before front).0.control

      pub said_same : said_by (left_then R t) ≡ (single R.taps R.p (history_all R.taps R.p t.before) t.call).said
      said_same = next_single R F t.before front t.call

      pub admitted : Admitted R t → is_refusal (single R.taps R.p (history_all R.taps R.p t.before) t.call).said.answer ≡ false
      admitted e = sym (ap (λ (s : Said). is_refusal s.answer) said_same) ∙ e

      pub left_same : (left_then R t).demodulator.control ≡ (single R.taps R.p (history_all R.taps R.p t.before) t.call).history.control
      left_same = (own_agrees R F _ _ (singles_run R F t.before front).0 (singles_fit R F t.before front) t.call).control

      -- a wait has its candidate
      waits : (w : Waiting) → (control_at R t).wait ≡ Some w → held (control_at R t).candidate ≡ true
      waits w e = ((record_facts R.p _ (singles_fit R F t.before front).for_query).control.wait w e).holding

    -- ---- what is taken
    started : (n : ℕ) → TakenSeen R ss n → Started (log_all R.taps R.p ss) n
    started n s =
        let t = s.moment in
        let c = control_same t in
        subst (Started (log_all R.taps R.p ss)) (sym (ap (λ (d : Control). d.sample) (left_same t)) ∙ s.number)
        (taken_started R.taps R.p (size_at R F) ss (alone_at R F ss sampled) (again_at R F ss sampled) t.before t.after t.call t.split (admitted t s.admitted)
        (subst (λ (d : Control). (w : Waiting) → d.wait ≡ Some w → held d.candidate ≡ true) c (waits t))
        (sym (ap (λ (d : Control). d.candidate) c) ∙ s.none)
        (sym (ap (λ (d : Control). held d.candidate) (left_same t)) ∙ s.holds))

    seen : (n : ℕ) → Started (log_all R.taps R.p ss) n → TakenSeen R ss n
    seen n (k, i) =
        let m = (log_exact_at R F ss sampled (First n k)).0 i in
        let t : Moment ss = record { before = m.before; call = m.call; after = m.after; split = m.split } in
        let c = control_same t in
        let r = m.rules in
        let s = started_taken R.taps R.p (size_at R F) ss (alone_at R F ss sampled) (again_at R F ss sampled) m.before m.after m.call m.split m.admitted
        n r.0 r.1 r.2.0 r.2.1 k r.2.2 in
        record {
          moment = t;
          admitted = ap (λ (o : Said). is_refusal o.answer) (said_same t) ∙ m.admitted;
          none = ap (λ (d : Control). d.candidate) c ∙ s.0;
          holds = ap (λ (d : Control). held d.candidate) (left_same t) ∙ s.1;
          number = ap (λ (d : Control). d.sample) (left_same t) ∙ s.2;
        }

    -- ---- what is due
    abbrev Marked : Offer → Type 0
    Marked o = (x : Shown) × (offer_of x o.sample ≡ o) × In (FellDue o.sample x) (log_all R.taps R.p ss)

    pub due_in : (o : Offer) → DueSeen R ss o → Marked o
    due_in o s =
        let t = s.moment in
        let c = control_same t in
        let h = subst (λ (e : Control). (t : TakenBurst) × HeldOf o.kind t e.candidate × (t.taken_at ≡ o.taken_at) × (t.gain ≡ o.gain)) c s.awaited in
        let kinds : h.0.kind ≡ o.kind = h.1.1 in
        let x : Shown = shown_of h.0 o.age o.replaced in (
          x,
          rw (kinds, h.2, h.3),
          (log_exact_at R F ss sampled (FellDue o.sample x)).1 (record {
            before = t.before;
            call = t.call;
            after = t.after;
            split = t.split;
            admitted = admitted t s.admitted;
            rules = (s.value, s.room, s.is_sample, s.number ∙ ap (λ (e : Control). e.sample + 1) c, sym (ap (λ (e : Control). e.wait) c) ∙ s.last, (h.0, h.1.0, refl));
          }),
        )

    due_out : (o : Offer) → Marked o → DueSeen R ss o
    due_out o (x, same, i) =
        let m = (log_exact_at R F ss sampled (FellDue o.sample x)).0 i in
        let t : Moment ss = record { before = m.before; call = m.call; after = m.after; split = m.split } in
        let c = control_same t in
        record {
          moment = t;
          admitted = ap (λ (s : Said). is_refusal s.answer) (said_same t) ∙ m.admitted;
          value = m.rules.0;
          room = m.rules.1;
          is_sample = m.rules.2;
          last = ap (λ (e : Control). e.wait) c ∙ m.rules.4 ∙ ap (λ (q : Offer). last_sample q.age q.replaced) same;
          awaited = (
            m.rules.5.0,
            (ap (λ (e : Control). e.candidate) c ∙ m.rules.5.1, ap (λ (y : Shown). y.kind) m.rules.5.2 ∙ ap (λ (q : Offer). q.kind) same),
            ap (λ (y : Shown). y.taken_at) m.rules.5.2 ∙ ap (λ (q : Offer). q.taken_at) same,
            ap (λ (y : Shown). y.gain) m.rules.5.2 ∙ ap (λ (q : Offer). q.gain) same,
          );
          number = m.rules.3 ∙ sym (ap (λ (e : Control). e.sample + 1) c);
        }

    -- ---- what is offered
    seen_due : (o : Offer) → Memᴰ o (offers_said (answers single_receiver (fresh_at R) ss)) → DueSeen R ss o
    unfolding left_at
    seen_due o i =
        let (b, c, a, e, f) = offers_seen ss (fresh_at R) o i in
        let m = record_after R b in
        let (x, room, q) = sample_only (rate_of m.rate) m c o f in
        let told = subst (λ (s : Single). (left m s).answer ≡ frame o) q f in
        let w = offer_out (rate_of m.rate) m x room o told in
        let t : Moment ss = record { before = b; call = c; after = a; split = e } in
        record { moment = t; admitted = ap is_refusal f; value = x; room = room; is_sample = q; last = w.last; awaited = w.awaited; number = w.number }

    due_seen : (o : Offer) → DueSeen R ss o → Memᴰ o (offers_said (answers single_receiver (fresh_at R) ss))
    unfolding left_at
    due_seen o s =
        let t = s.moment in
        let m = record_after R t.before in
        let admitted = subst (λ (c : Single). is_refusal (left m c).answer ≡ false) s.is_sample s.admitted in
        let told = offer_in_lem (rate_of m.rate) m s.value s.room o (record { last = s.last; awaited = s.awaited; number = s.number }) admitted in
        subst (λ (l : List Single). Memᴰ o (offers_said (answers single_receiver (fresh_at R) l))) (sym t.split)
        (seen_offers t.before t.call t.after (fresh_at R) o (subst (λ (c : Single). (left m c).answer ≡ frame o) (sym s.is_sample) told))

  -- the log's takes are those that a caller sees
  pub taken_exactly : (ss : List Single) → Each Callable ss → (n : ℕ) → TakenSeen R ss n ↔ Started (log_all R.taps R.p ss) n
  taken_exactly ss s n = (started ss s n, seen ss s n)

  -- and so are its due frames
  pub due_exactly : (ss : List Single) → Each Callable ss → (o : Offer) → DueSeen R ss o ↔ ((x : Shown) × (offer_of x o.sample ≡ o) × In (FellDue o.sample x) (log_all R.taps R.p ss))
  due_exactly ss s o = (due_in ss s o, due_out ss s o)

  -- ---- every list of calls
  module _ (cs : List Call) (g : Each Given cs) where
    abbrev ss : List Single
    ss = singles_from (fresh_at R) cs

    small : Each Callable ss
    small = singles_sampled cs (fresh_at R) g

    same : record_after R ss ≡ run receiver (fresh_at R) cs
    same = singles_record cs (fresh_at R)

    -- from a span over the log that the demanded one has in it, and a limit of the age
    demand_by : (hi age : ℕ) → hi ≤ 188 * R.p - 1 → DueWithin (184 * R.p - 1) hi (fed_at R ss) (log_at R ss) → AgeAtMost age (history_at R ss).control.candidate
        → DemandThree R cs (184 * R.p - 1) hi age
    demand_by hi age within span young =
        let r = (singles_run R F ss small).0 in
        record {
          due_one = λ n t fed.
              let fed' = subst (λ (m : SoftDemodulator). n + hi ≤ m.control.sample) (sym same) fed in
              let (d, due, lo, up) = span n (started ss small n t) (subst (λ (k : ℕ). n + hi ≤ k) r.count fed') in (
                d,
                (offer_of due.0 d, due_out ss small (offer_of due.0 d) (due.0, refl, due.1), refl),
                lo,
                up,
                λ e f l u.
                    let m = due_in ss small f.0 f.1 in
                    due_once_at R F ss small n e d (subst (DueAt (log_at R ss)) f.2 (m.0, m.2)) due l (omega (arith, u, within)) lo (omega (arith, up, within)),
              );
          offers = λ o. subst (λ (l : List Offer). Memᴰ o l ↔ DueSeen R ss o) (singles_offers cs (fresh_at R)) (seen_due ss small o, due_seen ss small o);
          ages = subst (λ (m : SoftDemodulator). AgeAtMost age m.control.candidate) same (subst (λ (c : Control). AgeAtMost age c.candidate) (sym r.control) young);
        }

    pub demand_three : DemandThree R cs (184 * R.p - 1) (188 * R.p - 1) (R.p + 1)
    demand_three = demand_by (188 * R.p - 1) (R.p + 1) (omega arith) (due_span_at R F ss small) (age_limit_at R F ss small)

    -- sharper than asked
    pub demand_three_sharp : DemandThree R cs (184 * R.p - 1) (185 * R.p - 1) R.p
    demand_three_sharp = demand_by (185 * R.p - 1) R.p (omega arith) (due_span_sharp_at R F ss small) (age_limit_sharp_at R F ss small)

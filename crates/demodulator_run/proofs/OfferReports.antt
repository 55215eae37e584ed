-- What an offer reports, at a rate, over every list of calls from a fresh record: its place, its age, and where it was taken. By the rule of the due sample. Assumes nothing.
use mathlib.Core.Path.{◌≡◌, refl, sym, ap, ◌∙◌, subst}
use mathlib.Core.Logic.{inl, inr}
use mathlib.Core.Bool.{Bool, true, false}
use mathlib.Core.List.{List, ◌∷◌, [], ◌++◌, Memᴰ}
use Prim.Native.Nat.{ℕ, ◌+◌, ◌-◌, ◌*◌, ◌≤◌, ◌<◌}
use native.Mathlib.Nat.{lt_of_not-le, eq-or-lt_of_le}
use native.Mathlib.Omega.{arith}
use lib.IntN.{ℤ}
use lib.Ieee.{Float}
use Rattle.numbers.specs.Firsts.{written}
use Rattle.machine.specs.Runs.{Each, answers}
use Rattle.shaping.specs.Rate.{Rate}
use Rattle.shaping.proofs.RateFacts.{Facts}
use Rattle.protocol.specs.declared.Kind.{Kind}
use Rattle.protocol.specs.declared.SyncBurst.TheVariants.{Frame}
use Rattle.decode.specs.declared.Correlation.{Correlation}
use Rattle.decode.specs.Correlator.{symbol_of, correlation}
use Rattle.search.specs.declared.Shown.{Shown}
use Rattle.demodulator.specs.declared.Offer.{Offer}
use Rattle.demodulator.specs.Spans.{symbol_at}
use Rattle.demodulator.specs.Record.{back}
use Rattle.demodulator.specs.Calls.{frame, offer_of}
use Rattle.demodulator_run.specs.Filter.{ago}
use Rattle.demodulator_run.specs.Rules.{Single, sample, Said, single, history_all}
use Rattle.demodulator_run.specs.Marks.{FellDue, is_refusal, log_all}
use Rattle.demodulator_run.specs.Demands.{at, Matches, In, Taken, Corner, Cause, shown_at}
use Rattle.demodulator_run.specs.Exact.{OfferedAt}
use Rattle.demodulator_run.specs.Run.{fresh_at, said_by, Callable}
use Rattle.demodulator_run.specs.Calls.{Call, receiver, Given, singles_from}
use Rattle.demodulator_run.specs.CallerSees.{Moment, left_then, offers_in}
use Rattle.demodulator_run.specs.OfferReports.{correlated, TakeSeen, ReplacedSeen, OfferPlace, OfferAge, OfferTaken}
use Rattle.demodulator_run.proofs.Log.{stood}
use Rattle.demodulator_run.proofs.LogExact.{admitted_given}
use Rattle.demodulator_run.proofs.Demand.{fed_all}
use Rattle.demodulator_run.proofs.DemandAt.{size_at, apart_at, due_rule_at, due_offered_at}
use Rattle.demodulator_run.proofs.SameWindow.{window_same}
use Rattle.demodulator_run.proofs.Step.{own_agrees}
use Rattle.demodulator_run.proofs.SinglesRun.{singles_run, singles_fit}
use Rattle.demodulator_run.proofs.Singles.{singles_sampled}
use Rattle.demodulator_run.proofs.CallerSees.{front, said_same, due_in, demand_three}
use Rattle.demodulator_run.proofs.SearchMoment.{heard_then_lem, take_seen}
use Rattle.demodulator_run.proofs.OfferWait.{heard, log, Found, found}

module _ (R : Rate) (F : Facts R) (ss : List Single) (sampled : Each Callable ss) (o : Offer) (x : Shown) (same : offer_of x o.sample ≡ o) where
  abbrev ear : ℕ → ℕ → Float
  ear = heard R F ss sampled

  module _ (C : Cause ear R.p (log R F ss sampled) o.sample x) (W : Found R F ss sampled o x C) where
    abbrev b : ℕ
    b = C.b

    abbrev k : Kind
    k = C.kind

    abbrev s : ℕ
    s = C.s

    -- ---- what the offer shows is what kind j took at sample n
    module _ (j : Kind) (n : ℕ) (mark : Bool) (e : x ≡ shown_at ear j n x.age mark) where
      told_mark : o.replaced ≡ mark
      told_mark = sym (ap (λ (q : Offer). q.replaced) same) ∙ ap (λ (y : Shown). y.replaced) e

      told_kind : j ≡ o.kind
      told_kind = sym (ap (λ (y : Shown). y.kind) e) ∙ ap (λ (q : Offer). q.kind) same

      told_taken : n ≡ o.taken_at
      told_taken = sym (ap (λ (y : Shown). y.taken_at) e) ∙ ap (λ (q : Offer). q.taken_at) same

      told_at : at ear j n ≡ at ear o.kind o.taken_at
      told_at = ap (λ (i : Kind). at ear i n) told_kind ∙ ap (λ (m : ℕ). at ear o.kind m) told_taken

    told_age : o.age ≡ (s + 184 * R.p) - o.sample
    told_age = sym (ap (λ (q : Offer). q.age) same) ∙ C.due.waited

    -- ---- the place
    place_of : OfferPlace R ss o (184 * R.p) (184 * R.p - 1)
    place_of = record {
      wait = W.wait;
      place = elim C.due.shown [
        | inl e ↦
            let n = told_taken e.0 s true e.2 in
            let due : o.sample ≡ s + (184 * R.p - o.age) = omega (arith, W.wait.ends, W.at_s) in
            inr (told_mark e.0 s true e.2, subst (ReplacedSeen R W.wait) (told_kind e.0 s true e.2) (W.replaced_out e.0 e.1), subst (λ (m : ℕ). o.sample ≡ m + (184 * R.p - o.age)) n due)
        | inr e ↦
            let n = told_taken k b false e.1 in
            inl (
              told_mark k b false e.1,
              λ j r. e.0 j (W.replaced_in j r),
              sym (told_kind k b false e.1) ∙ sym W.kinds,
              sym n ∙ sym W.since,
              elim C.due.sample [
                | inl q ↦ inl (W.corner_out q.0, subst (λ (m : ℕ). o.sample ≡ m + (184 * R.p - 1)) n (omega (arith, q.1, (size_at R F).0)))
                | inr q ↦ inr (λ r. q.0 (W.corner_in r), subst (λ (m : ℕ). o.sample ≡ m + 184 * R.p) n q.1)
              ],
            )
      ];
    }

    -- ---- the age
    -- in the corner some kind matched from b to s, so these are few too
    corner_few : Corner ear b k s → s < b + R.p
    corner_few q = lt_of_not-le λ (far : b + R.p ≤ s).
        let E = C.fails in
        let apart = apart_at R F ss sampled in
        let at_b = E.matched b (omega arith) E.later in
        elim (eq-or-lt_of_le far) [
          | inl e ↦ apart k q.0 b at_b (subst (Matches ear q.0) (sym e) q.2)
          | inr l ↦ apart k k b at_b (E.matched (b + R.p) (omega arith) l)
        ]

    age_of : OfferAge R ss o R.p
    age_of = record {
      wait = W.wait;
      least = elim C.due.sample [ inl q ↦ omega (arith, told_age, q.1, C.fails.later) | inr q ↦ omega (arith, told_age, q.1, C.fails.later) ];
      most = elim C.due.sample [ inl q ↦ omega (arith, told_age, q.1, corner_few q.0) | inr q ↦ omega (arith, told_age, q.1, W.near) ];
      count = elim C.due.shown [
        | inl e ↦ inr (
          told_mark e.0 s true e.2,
          sym (told_taken e.0 s true e.2) ∙ sym W.at_s,
          elim C.due.sample [
            | inl q ↦ absurd (W.not_both q.0 e.0 e.1)
            | inr q ↦ omega (arith, told_age, q.1, W.since, W.at_s, C.fails.later)
          ],
        )
        | inr e ↦
            let n = told_taken k b false e.1 in
            inl (
              told_mark k b false e.1,
              elim C.due.sample [
                | inl q ↦ inl (W.corner_out q.0, omega (arith, told_age, q.1, n, W.at_s, C.fails.later))
                | inr q ↦ inr (λ r. q.0 (W.corner_in r), omega (arith, told_age, q.1, n, W.at_s, C.fails.later))
              ],
            )
      ];
    }

    -- ---- where it was taken
    -- the sample's values are those that a caller sees
    correlates : (j : Kind) (n : ℕ) (T : TakeSeen R ss j n) → at ear j n ≡ correlated R T.moment j
    correlates j n T = ap (correlation (Frame j)) (ap ear (sym T.number) ∙ sym (heard_then_lem R F ss sampled T.moment))

    module _ (j : Kind) (n : ℕ) (mark : Bool) (e : x ≡ shown_at ear j n x.age mark) (taken : Taken (log R F ss sampled) n j) (P : OfferedAt R.taps R.p o.sample x ss) where
      abbrev then : Moment ss
      then = record { before = P.before; call = sample P.value P.room; after = P.after; split = P.split }

      take : TakeSeen R ss o.kind o.taken_at
      take =
          take_seen R F ss sampled o.kind o.taken_at
          (subst (λ (i : Kind). Taken (log R F ss sampled) o.taken_at i) (told_kind j n mark e) (subst (λ (m : ℕ). Taken (log R F ss sampled) m j) (told_taken j n mark e) taken))

      values : at ear j n ≡ correlated R take.moment o.kind
      values = told_at j n mark e ∙ correlates o.kind o.taken_at take

      abbrev xs : List ℤ
      xs = (history_all R.taps R.p P.before).samples ++ (P.value ∷ [])

      said : said_by (left_then R then) ≡ record { answer = frame (offer_of x o.sample); room = written (symbol_at R.p x (ago R.taps R.p xs)) 192 P.room }
      said = said_same R F ss sampled then ∙ P.said

      -- the record's ring holds what the window is made of
      window : symbol_at R.p x (back R.p (left_then R then).demodulator) ≡ symbol_at R.p x (ago R.taps R.p xs)
      unfolding single
      window =
          let h = history_all R.taps R.p P.before in
          let a = own_agrees R F _ _ (singles_run R F P.before (front R F ss sampled then)).0 (singles_fit R F P.before (front R F ss sampled then)) (sample P.value P.room) in
          let more = admitted_given R.taps R.p h P.value P.room (ap (λ (q : Said). is_refusal q.answer) P.said) in
          window_same R.p (size_at R F).0 (back R.p (left_then R then).demodulator) (ago R.taps R.p xs)
          (subst (λ (zs : List ℤ). (i : ℕ) → i < 192 * R.p → back R.p (left_then R then).demodulator i ≡ ago R.taps R.p zs i) more a.rings.ring) x

      gains : x.gain ≡ (correlated R take.moment o.kind).gain
      gains = ap (λ (y : Shown). y.gain) e ∙ ap (λ (m : Correlation). m.gain) values

      taken_by : OfferTaken R ss o
      taken_by = record {
        take = take;
        gain = sym (ap (λ (q : Offer). q.gain) same) ∙ gains;
        moment = then;
        value = P.value;
        room = P.room;
        is_sample = refl;
        answer = ap (λ (q : Said). q.answer) said ∙ ap frame same;
        symbols =
            let shifts : x.shift ≡ (correlated R take.moment o.kind).shift = ap (λ (y : Shown). y.shift) e ∙ ap (λ (m : Correlation). m.shift) values in
            let reads : ℕ → Float = λ i. back R.p (left_then R then).demodulator (R.p * (191 - i)) in
            ap (λ (q : Said). q.room) said ∙ ap (λ (f : ℕ → Float). written f 192 P.room) (sym window)
            ∙ ap (λ (g : Float). written (λ (i : ℕ). symbol_of g x.shift (back R.p (left_then R then).demodulator (R.p * (191 - i)))) 192 P.room) gains
            ∙ ap (λ (g : Float). written (λ (i : ℕ). symbol_of (correlated R take.moment o.kind).gain g (back R.p (left_then R then).demodulator (R.p * (191 - i)))) 192 P.room) shifts;
      }

    taken_of : OfferedAt R.taps R.p o.sample x ss → OfferTaken R ss o
    taken_of P = elim C.due.shown [
      | inl e ↦ taken_by e.0 s true e.2 (W.replacing e.0 e.1) P
      | inr e ↦ taken_by k b false e.1 (stood C.fails.standing) P
    ]

-- ---- every list of calls, at a rate
module _ (R : Rate) (F : Facts R) (cs : List Call) (given : Each Given cs) (o : Offer) (offered : Memᴰ o (offers_in (answers receiver (fresh_at R) cs))) where
  abbrev ss : List Single
  ss = singles_from (fresh_at R) cs

  small : Each Callable ss
  small = singles_sampled cs (fresh_at R) given

  -- it is due, by the demand, and so the rule of the due sample applies
  due : (x : Shown) × (offer_of x o.sample ≡ o) × In (FellDue o.sample x) (log_all R.taps R.p ss)
  due = due_in R F ss small o (((demand_three R F cs given).offers o).0 offered)

  rule : (o.sample ≤ fed_all R.taps R.p ss) × Cause (heard R F ss small) R.p (log R F ss small) o.sample due.0
  rule = ((due_rule_at R F ss small).exact o.sample due.0).0 due.2

  wait : Found R F ss small o due.0 rule.1
  wait = found R F ss small o due.0 due.1 rule.0 rule.1

  -- "1,840 later, or 1,839 in the named corner"
  pub offer_place : OfferPlace R ss o (184 * R.p) (184 * R.p - 1)
  offer_place = place_of R F ss small o due.0 due.1 rule.1 wait

  pub offer_age_sharp : OfferAge R ss o R.p
  offer_age_sharp = age_of R F ss small o due.0 due.1 rule.1 wait

  pub offer_age : OfferAge R ss o (R.p + 1)
  offer_age = let A = offer_age_sharp in record { wait = A.wait; least = A.least; most = omega (arith, A.most); count = A.count }

  pub offer_taken : OfferTaken R ss o
  offer_taken = taken_of R F ss small o due.0 due.1 rule.1 wait (due_offered_at R F ss small o.sample due.0 due.2)

-- A sample is answered with an offer exactly where one sample was left of the wait for a frame, from every record. Assumes nothing.
use Rattle.std.specs.Prelude.{Option, Some, None}
use mathlib.Core.Path.{◌≡◌, refl, sym, ap, ◌∙◌}
use mathlib.Core.Logic.{◌⊎◌, inl, inr}
use mathlib.Core.Bool.{Bool, true, false, not, cond, true≢false}
use mathlib.Core.List.Memᴰ
use mathlib.Core.List.{List, [], ◌∷◌, ◌++◌, Memᴰ}
use Prim.Native.Nat.{ℕ, ◌+◌, ◌^◌, ◌≤◌}
use native.Mathlib.Omega.{arith}
use borrow.Author.Tests.{ltb-false, not-false}
use lib.Dec.{eqb, ltb}
use lib.IntN.{ℤ}
use lib.ListN.{length}
use lib.Ieee.{Float}
use Rattle.machine.specs.Runs.{run, answers}
use Rattle.shaping.specs.Rate.{Rate}
use Rattle.protocol.specs.Refusals.{bare}
use Rattle.search.specs.declared.Candidate.{Candidate}
use Rattle.search.specs.declared.Waiting.{Waiting}
use Rattle.search.specs.declared.Control.{Control}
use Rattle.search.specs.declared.Turn.TheVariants.{Rest}
use Rattle.search.specs.declared.Reply.{Reply}
use Rattle.search.specs.declared.Shown.{Shown}
use Rattle.search.specs.TakenBurst.{TakenBurst, held_as, held_in, shown_of}
use Rattle.search.specs.Turn.{Outcome, quiet, offer, counted, nearer, waiting_on, freed, owing, due_turn, waited_turn, comes_to, sampled}
use Rattle.search.proofs.AgeInPass.{by_test}
use Rattle.search.proofs.HeldOrNot.{HeldOrNot, not_held, is_held, held_or_not}
use Rattle.demodulator.specs.declared.SoftDemodulator.{SoftDemodulator}
use Rattle.demodulator.specs.declared.Offer.{Offer}
use Rattle.demodulator.specs.Spans.{eight}
use Rattle.demodulator.specs.Record.{back, stored}
use Rattle.demodulator.specs.Fit.{unfit_number, record_fit_lem, fit_for_sample_lem, fit_for_reply_lem}
use Rattle.demodulator.specs.Calls.{Paper, refusal, nothing, frame, done, carrier, Left, refused, finished, admitted_by, demodulated, answered, detected, offer_of}
use Rattle.demodulator.proofs.Fitness.{record_facts, sample_record}
use Rattle.demodulator_run.specs.Rules.{Single, sample, reply, query}
use Rattle.demodulator_run.specs.Marks.{is_refusal}
use Rattle.demodulator_run.specs.Run.{left, left_at, single_receiver}
use Rattle.demodulator_run.specs.Exact.{HeldOf, last_sample}
use Rattle.demodulator_run.specs.CallerSees.{offer_in}
use Rattle.demodulator_run.proofs.Singles.{offers_said}

module _ (R : Rate) where
  -- ---- what an offer tells of the control
  no_offer : {A : Type 0} (shown : Shown) (c d : Control) → quiet c ≡ offer shown d → A
  no_offer shown c d e = let z : ◌≡◌ {A = ℕ} 0 1 = cc in absurd (omega arith)

  module _ (p : ℕ) (v : ℕ → Float) (shown : Shown) (d : Control) where
    -- what was held is offered, with what was kept with the wait
    abbrev Offered : Waiting → Candidate → Type 0
    Offered w candidate = (held : TakenBurst) × (candidate ≡ held_as held) × (shown_of held w.age w.replaced ≡ shown)

    due_offer : {candidate : Candidate} → HeldOrNot candidate → (w : Waiting) (c : Control) → comes_to p v (due_turn (held_in candidate) w c) ≡ offer shown d → Offered w candidate × (d ≡ owing true c)
    unfolding due_turn
    due_offer not_held w c e = no_offer shown _ d e
    due_offer (is_held held) w c e = ((held, refl, cc), cc)

    waited_offer : (c : Control) (wait : Option Waiting) → comes_to p v (waited_turn wait (counted c)) ≡ offer shown d
        → (w : Waiting) × (wait ≡ Some w) × (w.left ≤ 1) × Offered w c.candidate × (d.sample ≡ c.sample + 1)
    unfolding waited_turn
    waited_offer c None e = no_offer shown _ d e
    waited_offer c (Some u) e = go (ltb 1 u.left) refl e
      where
        go : (b : Bool) → ltb 1 u.left ≡ b → comes_to p v (cond b (Rest (waiting_on (nearer u) (counted c))) (due_turn (held_in c.candidate) u (freed (counted c)))) ≡ offer shown d
            → (w : Waiting) × (Some u ≡ Some w) × (w.left ≤ 1) × Offered w c.candidate × (d.sample ≡ c.sample + 1)
        go true l e = no_offer shown _ d e
        go false l e =
            let f = due_offer (held_or_not c.candidate) u (freed (counted c)) e in
            (u, refl, ltb-false 1 u.left l, f.0, ap (λ (k : Control). k.sample) f.1)

  -- ---- a sample of a record
  module _ (m : SoftDemodulator) (x : ℤ) (room : List Float) (o : Offer) where
    pub record Offers : Type 0 where
      pub last : m.control.wait ≡ last_sample o.age o.replaced
      pub awaited : (held : TakenBurst) × HeldOf o.kind held m.control.candidate × (held.taken_at ≡ o.taken_at) × (held.gain ≡ o.gain)
      pub number : o.sample ≡ m.control.sample + 1

    abbrev Out : Left → Type 0
    Out l = l.answer ≡ frame o → Offers

    no_frame : (number : ℕ) → Out (refused number m room)
    no_frame number e = let z : ◌≡◌ {A = ℕ} 0 1 = cc in absurd (omega arith)

    finished_out : fit_for_sample_lem R.p m ≡ true → (a : Outcome) → a ≡ sampled R.p (eight R.p (back R.p (stored R m x))) m.control → Out (finished R.p (stored R m x) room a)
    unfolding sampled
    finished_out fit (quiet c) e t = let z : ◌≡◌ {A = ℕ} 0 1 = cc in absurd (omega arith)
    finished_out fit (offer shown c) e t =
        let same : offer_of shown c.sample ≡ o = cc in
        let f = waited_offer R.p (eight R.p (back R.p (stored R m x))) shown c m.control m.control.wait (sym e) in
        let w = (record_facts R.p m (sample_record R.p m fit)).control.wait f.0 f.1 in
        let one : f.0.left ≡ 1 = omega (arith, w.from, f.2) in
        let kinds : f.3.0.kind ≡ o.kind = ap (λ (s : Shown). s.kind) f.3.2 ∙ ap (λ (q : Offer). q.kind) same in
        let numbers : f.3.0.taken_at ≡ o.taken_at = ap (λ (s : Shown). s.taken_at) f.3.2 ∙ ap (λ (q : Offer). q.taken_at) same in
        let gains : f.3.0.gain ≡ o.gain = ap (λ (s : Shown). s.gain) f.3.2 ∙ ap (λ (q : Offer). q.gain) same in
        let ages : f.0.age ≡ o.age = ap (λ (s : Shown). s.age) f.3.2 ∙ ap (λ (q : Offer). q.age) same in
        let marks : f.0.replaced ≡ o.replaced = ap (λ (s : Shown). s.replaced) f.3.2 ∙ ap (λ (q : Offer). q.replaced) same in
        record {
          last = f.1 ∙ ap (λ (n : ℕ). Some (record { left = n; age = f.0.age; replaced = f.0.replaced })) one ∙ ap (λ (n : ℕ). last_sample n f.0.replaced) ages ∙ ap (last_sample o.age) marks;
          awaited = (f.3.0, (f.3.1, kinds), numbers, gains);
          number = sym (ap (λ (q : Offer). q.sample) same) ∙ f.4;
        }

    pub offer_out : (demodulated R m x room).answer ≡ frame o → Offers
    unfolding demodulated admitted_by
    offer_out =
        by_test Out (not (fit_for_sample_lem R.p m)) _ _ (λ _. no_frame (unfit_number m))
        (λ fit. by_test Out m.control.owed _ _ (λ _. no_frame 2)
        (λ _. by_test Out (ltb (length room) 192) _ _ (λ _. no_frame 4)
        (λ _. by_test Out (eqb m.control.sample (2 ^ 63)) _ _ (λ _. no_frame 5)
        (λ _. finished_out (not-false (fit_for_sample_lem R.p m) fit) (sampled R.p (eight R.p (back R.p (stored R m x))) m.control) refl))))

    -- and back
    abbrev In : Left → Type 0
    In l = is_refusal l.answer ≡ false → l.answer ≡ frame o

    not_in : (number : ℕ) → In (refused number m room)
    not_in number e = absurd (true≢false e)

    sampled_in : (c : Control) → c.wait ≡ last_sample o.age o.replaced → (held : TakenBurst) → c.candidate ≡ held_as held → (v : ℕ → Float)
        → sampled R.p v c ≡ offer (shown_of held o.age o.replaced) (owing true (freed (counted c)))
    unfolding sampled waited_turn due_turn
    sampled_in c w held h v = rw (w, h)

    pub offer_in_lem : Offers → is_refusal (demodulated R m x room).answer ≡ false → (demodulated R m x room).answer ≡ frame o
    unfolding demodulated admitted_by
    offer_in_lem f =
        let held : TakenBurst = f.awaited.0 in
        let kinds : f.awaited.0.kind ≡ o.kind = f.awaited.1.1 in
        let numbers : f.awaited.0.taken_at ≡ o.taken_at = f.awaited.2 in
        let gains : f.awaited.0.gain ≡ o.gain = f.awaited.3 in
        let s = sampled_in m.control f.last f.awaited.0 f.awaited.1.0 (eight R.p (back R.p (stored R m x))) in
        by_test In (not (fit_for_sample_lem R.p m)) _ _ (λ _. not_in (unfit_number m))
        (λ _. by_test In m.control.owed _ _ (λ _. not_in 2)
        (λ _. by_test In (ltb (length room) 192) _ _ (λ _. not_in 4)
        (λ _. by_test In (eqb m.control.sample (2 ^ 63)) _ _ (λ _. not_in 5)
        (λ _ _. rw (s, kinds, numbers, gains, sym f.number)))))

  -- ---- a single call
  -- only a sample brings an offer
  abbrev NoFrame : Paper → Type 0
  NoFrame a = (o : Offer) → a ≡ frame o → ⊥

  refusal_none : (number : ℕ) → NoFrame (refusal (bare number))
  refusal_none number o e = let z : ◌≡◌ {A = ℕ} 0 1 = cc in omega arith

  reply_none : (m : SoftDemodulator) (r : Reply) → NoFrame (answered R.p m r []).answer
  unfolding answered
  reply_none m r =
      let None : Left → Type 0 = λ l. NoFrame l.answer in
      by_test None (not (fit_for_reply_lem R.p m)) (refused (unfit_number m) m []) _ (λ _. refusal_none (unfit_number m))
      (λ _. by_test None (not m.control.owed) (refused 3 m []) _ (λ _. refusal_none 3) (λ _ o e. let z : ◌≡◌ {A = ℕ} 0 1 = cc in omega arith))

  query_none : (m : SoftDemodulator) → NoFrame (detected R.p m)
  unfolding detected
  query_none m = by_test NoFrame (not (record_fit_lem R.p m)) (refusal (bare (unfit_number m))) _ (λ _. refusal_none (unfit_number m)) (λ _ o e. let z : ◌≡◌ {A = ℕ} 0 1 = cc in omega arith)

  pub sample_only : (m : SoftDemodulator) (c : Single) (o : Offer) → (left_at R m c).answer ≡ frame o → (x : ℤ) × (room : List Float) × (c ≡ sample x room)
  unfolding left_at
  sample_only m (sample x room) o e = (x, room, refl)
  sample_only m (reply r) o e = absurd (reply_none m r o e)
  sample_only m query o e = absurd (query_none m o e)

-- ---- where an offer is among the answers
abbrev Seen : SoftDemodulator → List Single → Offer → Type 0
Seen m ss o = (before : List Single) × (call : Single) × (after : List Single) × (ss ≡ before ++ (call ∷ after)) × ((left (run single_receiver m before) call).answer ≡ frame o)

in_paper : (a : Paper) (o : Offer) → Memᴰ o (offer_in a) → a ≡ frame o
unfolding offer_in
in_paper (frame q) o i = sym (ap frame (Memᴰ.eq_of_singleton i))
in_paper (refusal number) o i = absurd (Memᴰ.not-nil i)
in_paper nothing o i = absurd (Memᴰ.not-nil i)
in_paper done o i = absurd (Memᴰ.not-nil i)
in_paper (carrier there) o i = absurd (Memᴰ.not-nil i)

pub offers_seen : (ss : List Single) (m : SoftDemodulator) (o : Offer) → Memᴰ o (offers_said (answers single_receiver m ss)) → Seen m ss o
unfolding answers offers_said run
offers_seen [] m o i = absurd (Memᴰ.not-nil i)
offers_seen (s ∷ ss) m o i = later (λ j. offers_seen ss (left m s).demodulator o j) (Memᴰ.append_cases (offer_in (left m s).answer) i)
  where
    later : (Memᴰ o (offers_said (answers single_receiver (left m s).demodulator ss)) → Seen (left m s).demodulator ss o)
        → Memᴰ o (offer_in (left m s).answer) ⊎ Memᴰ o (offers_said (answers single_receiver (left m s).demodulator ss)) → Seen m (s ∷ ss) o
    later more (inl j) = ([], s, ss, refl, in_paper (left m s).answer o j)
    later more (inr j) = let (b, c, a, e, f) = more j in (s ∷ b, c, a, ap (λ (l : List Single). s ∷ l) e, f)

pub seen_offers : (before : List Single) (call : Single) (after : List Single) (m : SoftDemodulator) (o : Offer) → (left (run single_receiver m before) call).answer ≡ frame o
    → Memᴰ o (offers_said (answers single_receiver m (before ++ (call ∷ after))))
unfolding answers offers_said run offer_in
seen_offers [] call after m o e = rw e (Memᴰ.append_left (offers_said (answers single_receiver (left m call).demodulator after)) (Memᴰ.head {xs = []} refl))
seen_offers (s ∷ before) call after m o e = Memᴰ.append_right (offer_in (left m s).answer) (seen_offers before call after (left m s).demodulator o e)

-- The list by the rules from a sample on: a search, a wait that rests, and a frame that falls due. Assumes nothing.
use Rattle.std.specs.Prelude.{Some, None, Option}
use mathlib.Core.Path.{◌≡◌, refl, sym, ap, ◌∙◌, subst}
use mathlib.Core.Logic.{inl, inr}
use mathlib.Core.Bool.{Bool, true, false, cond}
use mathlib.Core.List.{List, [], ◌∷◌}
use Prim.Native.Nat.{ℕ, zero, suc, ◌+◌, ◌-◌, ◌≤◌, ◌<◌}
use native.Mathlib.Nat.{eq-or-lt_of_le}
use native.Mathlib.Omega.{arith}
use borrow.Author.Tests.{lt-ltb, le-ltb, ltb-true, ltb-false}
use lib.Dec.{ltb}
use lib.IntN.{ℤ}
use lib.ListN.{length, drop}
use lib.Ieee.{Float}
use Rattle.numbers.proofs.Tests.{lt_or_le}
use Rattle.shaping.specs.Rate.{tap_count}
use Rattle.search.specs.declared.Candidate.{Candidate}
use Rattle.search.specs.declared.Candidate.TheVariants.{Nothing, Held}
use Rattle.search.specs.declared.Waiting.{Waiting}
use Rattle.search.specs.declared.Control.{Control}
use Rattle.search.specs.declared.Reply.{Reply}
use Rattle.search.specs.declared.Reply.TheVariants.{Accepted, Rejected}
use Rattle.search.specs.TakenBurst.{TakenBurst, held_as, held_in, shown_of}
use Rattle.search.specs.Turn.{cleared, nearer, due_turn, waited_turn, Outcome, quiet, offer, sampled, replied}
use Rattle.demodulator.specs.Spans.{eight}
use Rattle.demodulator.specs.Singles.{reply}
use Rattle.demodulator_run.specs.Rules.{answered, single, single_rules}
use Rattle.demodulator_run.proofs.StepExact.{free_due}
use Rattle.plain.specs.declared.pursuit.Pursuit.{Pursuit}
use Rattle.plain.specs.declared.due.Due.{Due}
use Rattle.plain.specs.List.{Entry, list_from}
use Rattle.plain.specs.Values.{from_whole}
use Rattle.plain.specs.SearchPart.{idle_timer, control_of, free, searched_at}
use Rattle.plain.specs.Rest.{due_at, due_of, entry_at, look_from, onwards, Finds}
use Rattle.plain.proofs.SampleLaws.{whole_ago}
use Rattle.plain.proofs.DueLaws.{due_next, due_later, due_nearer}
use Rattle.plain.proofs.PursuitLaws.{searched_blind, held_some, Sound, searched_sound}
use Rattle.plain.proofs.SampleStep.{at, after, then_outcome, none_after, heard, look}

-- a candidate is what is held in it
held_is : (c : Candidate) (u : TakenBurst) → held_in c ≡ Some u → c ≡ held_as u
held_is Nothing u e = absurd (held_some u (sym e))
held_is (Held kind age diff gain shift since) u e = let same : record { kind = kind; age = age; diff = diff; gain = gain; shift = shift; taken_at = since } ≡ u = cc in ap held_as same

module _ (table : List Float) (p : ℕ) (size : length table ≡ tap_count p) (xs : List ℤ) (short : length xs ≤ 65536) where
  -- ---- with a wait, nothing is searched until its frame is due
  abbrev waiting : TakenBurst → Waiting → Pursuit
  waiting u w = record { candidate = held_as u; wait = Some w }

  abbrev due_for : TakenBurst → Waiting → ℕ → Due
  due_for u w d = record { shown = shown_of u w.age w.replaced; sample = d }

  after_offer : (d : ℕ) → d ≤ length xs → (t : Option ℕ) (c : Control)
      → c ≡ record { candidate = Nothing; wait = None; dcd = t; owed = true; sample = d } → (r : Reply) (rs : List Reply)
      → list_from (single_rules table p) (single table p (at table p xs d c) (reply r)).history (drop d xs) rs ≡ onwards table p xs d t (r ∷ rs)
  unfolding single answered replied onwards look_from
  after_offer d there t c e Accepted rs = rw e (look table p size xs short d there Nothing t rs)
  after_offer d there t c e Rejected rs = rw (e, le-ltb (length xs) d there, whole_ago table p size xs d there) refl

  record Rests (u : TakenBurst) (k : ℕ) (w : Waiting) (t : Option ℕ) : Type 0 where
    beyond : length xs < due_at k w.left → (rs : List Reply) → after table p xs k (control_of (waiting u w) k t) rs ≡ []
    falls : due_at k w.left ≤ length xs
        → (t' : Option ℕ)
        × ((rs : List Reply) → after table p xs k (control_of (waiting u w) k t) rs ≡ entry_at table p xs (due_for u w (due_at k w.left)) ∷ onwards table p xs (due_at k w.left) t' rs)

  abbrev offered_at : TakenBurst → Waiting → ℕ → Option ℕ → Outcome
  offered_at u w d t = offer (shown_of u w.age w.replaced) (record { candidate = Nothing; wait = None; dcd = t; owed = true; sample = d })

  comes_due : (v : ℕ → Float) (u : TakenBurst) (k : ℕ) (w : Waiting) (t : Option ℕ) → w.left ≤ 1
      → sampled p v (control_of (waiting u w) k t) ≡ offered_at u w (k + 1) (cleared (k + 1) t)
  unfolding sampled waited_turn due_turn
  comes_due v u k w t few = rw (le-ltb 1 w.left few)

  comes_rest : (v : ℕ → Float) (u : TakenBurst) (k : ℕ) (w : Waiting) (t : Option ℕ) → 2 ≤ w.left
      → sampled p v (control_of (waiting u w) k t) ≡ quiet (control_of (waiting u (nearer w)) (k + 1) (cleared (k + 1) t))
  unfolding sampled waited_turn
  comes_rest v u k w t many = rw (lt-ltb 1 w.left many)

  offered : (u : TakenBurst) (k : ℕ) (w : Waiting) (t : Option ℕ) → k < length xs → w.left ≤ 1 → (rs : List Reply)
      → after table p xs k (control_of (waiting u w) k t) rs ≡ entry_at table p xs (due_for u w (k + 1)) ∷ onwards table p xs (k + 1) (cleared (k + 1) t) rs
  unfolding then_outcome onwards
  offered u k w t more few [] = heard table p size xs short k more (waiting u w) t (offered_at u w (k + 1) (cleared (k + 1) t)) (comes_due _ u k w t few) []
  offered u k w t more few (r ∷ rs) =
      heard table p size xs short k more (waiting u w) t (offered_at u w (k + 1) (cleared (k + 1) t)) (comes_due _ u k w t few) (r ∷ rs)
      ∙ ap (λ (l : List Entry). entry_at table p xs (due_for u w (k + 1)) ∷ l) (after_offer (k + 1) (omega arith) (cleared (k + 1) t) _ refl r rs)

  rested : (u : TakenBurst) (k : ℕ) (w : Waiting) (t : Option ℕ) → k < length xs → 2 ≤ w.left → (rs : List Reply)
      → after table p xs k (control_of (waiting u w) k t) rs ≡ after table p xs (k + 1) (control_of (waiting u (nearer w)) (k + 1) (cleared (k + 1) t)) rs
  unfolding then_outcome
  rested u k w t more many rs = heard table p size xs short k more (waiting u w) t (quiet (control_of (waiting u (nearer w)) (k + 1) (cleared (k + 1) t))) (comes_rest _ u k w t many) rs

  -- the recording is at its end
  rests_ended : (u : TakenBurst) (k : ℕ) (w : Waiting) (t : Option ℕ) → k ≡ length xs → Rests u k w t
  rests_ended u k w t e = record {
    beyond = λ past rs. none_after table p size xs short k (omega arith) _ rs;
    falls = λ within. absurd (elim (lt_or_le w.left 2) [
      | inl one ↦ omega (arith, due_next k w.left (omega arith), e)
      | inr two ↦ omega (arith, due_later k w.left two, e)
    ]);
  }

  -- the next sample is the due one
  rests_due : (u : TakenBurst) (k : ℕ) (w : Waiting) (t : Option ℕ) → k < length xs → w.left ≤ 1 → Rests u k w t
  rests_due u k w t more last =
      let d : due_at k w.left ≡ k + 1 = due_next k w.left last in
      record {
        beyond = λ past. absurd (omega (arith, d));
        falls = λ within.
            subst
            (λ (q : ℕ). (t' : Option ℕ)
            × ((rs : List Reply) → after table p xs k (control_of (waiting u w) k t) rs ≡ entry_at table p xs (due_for u w q) ∷ onwards table p xs q t' rs))
            (sym d) (cleared (k + 1) t, offered u k w t more last);
      }

  -- or one more rests
  rests_more : (u : TakenBurst) (k : ℕ) (w : Waiting) (t : Option ℕ) → k < length xs → 2 ≤ w.left → Rests u (k + 1) (nearer w) (cleared (k + 1) t) → Rests u k w t
  rests_more u k w t more two r =
      let d : due_at (k + 1) (w.left - 1) ≡ due_at k w.left = due_nearer k w.left two in
      record {
        beyond = λ past rs. rested u k w t more two rs ∙ r.beyond (omega (arith, d)) rs;
        falls = λ within.
            let g = r.falls (omega (arith, d)) in
            (g.0, λ rs. rested u k w t more two rs ∙ g.1 rs ∙ ap (λ (q : ℕ). entry_at table p xs (due_for u w q) ∷ onwards table p xs q g.0 rs) d);
      }

  rests : (n : ℕ) (u : TakenBurst) (k : ℕ) (w : Waiting) (t : Option ℕ) → w.left ≤ n + 1 → k ≤ length xs → Rests u k w t
  rests zero u k w t few there = elim (eq-or-lt_of_le there) [ inl e ↦ rests_ended u k w t e | inr more ↦ rests_due u k w t more few ]
  rests (suc n) u k w t few there = elim (eq-or-lt_of_le there) [
    | inl e ↦ rests_ended u k w t e
    | inr more ↦ elim (lt_or_le w.left 2) [
      | inl one ↦ rests_due u k w t more (omega arith)
      | inr two ↦ rests_more u k w t more two (rests n u (k + 1) (nearer w) (cleared (k + 1) t) (omega arith) (omega arith))
    ]
  ]

  -- ---- a search, and what it leads to
  pub looked : (k : ℕ) → k ≤ length xs → (candidate : Candidate) (t : Option ℕ)
      → (t' : Option ℕ) × ((rs : List Reply) → look_from table p xs k candidate t rs ≡ after table p xs k (control_of (searched_at table p xs k candidate) k t') rs)
  unfolding look_from
  looked k there candidate t =
      let b = searched_blind k p (eight p (from_whole table p xs k)) (free candidate) t in
      (b.0, λ rs. rw (le-ltb (length xs) k there) (ap (λ (c : Control). after table p xs k c rs) b.1))

  -- no wait is set: the next sample is searched
  pub goes_on : (k : ℕ) → k ≤ length xs → (candidate : Candidate) (s : Pursuit) → s ≡ searched_at table p xs k candidate → s.wait ≡ None → (t : Option ℕ)
      → (t' : Option ℕ) × ((rs : List Reply) → look_from table p xs k candidate t rs ≡ look_from table p xs (k + 1) s.candidate t' rs)
  goes_on k there candidate s e f t =
      let l = looked k there candidate t in
      let q : searched_at table p xs k candidate ≡ free s.candidate = sym e ∙ ap (λ (w : Option Waiting). record { candidate = s.candidate; wait = w }) f in
      (cleared (k + 1) l.0, λ rs. l.1 rs ∙ ap (λ (a : Pursuit). after table p xs k (control_of a k l.0) rs) q ∙ look table p size xs short k there s.candidate l.0 rs)

  -- a wait is set: its frame is the next to fall due
  module _ (from k : ℕ) (there : k ≤ length xs) (candidate : Candidate)
      (before : (t : Option ℕ) → (t' : Option ℕ) × ((rs : List Reply) → look_from table p xs from Nothing t rs ≡ look_from table p xs k candidate t' rs)) where
    finds_by : (w : Waiting) (u : TakenBurst) → searched_at table p xs k candidate ≡ waiting u w → (b : Bool) → ltb (length xs) (due_at k w.left) ≡ b
        → Finds table p xs from (cond b None (Some (due_for u w (due_at k w.left))))
    unfolding Finds
    finds_by w u e true past = λ t rs.
        let f = before t in
        let l = looked k there candidate f.0 in
        f.1 rs ∙ l.1 rs ∙ ap (λ (a : Pursuit). after table p xs k (control_of a k l.0) rs) e ∙ (rests w.left u k w l.0 (omega arith) there).beyond (ltb-true _ _ past) rs
    finds_by w u e false near = record {
      within = ltb-false _ _ near;
      listed = λ t.
          let f = before t in
          let l = looked k there candidate f.0 in
          let r = (rests w.left u k w l.0 (omega arith) there).falls (ltb-false _ _ near) in
          (r.0, λ rs. f.1 rs ∙ l.1 rs ∙ ap (λ (a : Pursuit). after table p xs k (control_of a k l.0) rs) e ∙ r.1 rs);
    }

    finds_held : (s : Pursuit) → s ≡ searched_at table p xs k candidate → (w : Waiting) → s.wait ≡ Some w → (h : Option TakenBurst)
        → held_in s.candidate ≡ h → Finds table p xs from (due_of k (length xs) w h)
    unfolding due_of
    finds_held s e w d None n =
        let sound : s.wait ≡ None = subst Sound (sym e) (searched_sound p (eight p (from_whole table p xs k)) (control_of (free candidate) k idle_timer) (λ _. refl)) n in
        absurd (free_due {w = w} (sym sound ∙ d))
    finds_held s e w d (Some u) n = finds_by w u (sym e ∙ (λ i. record { candidate = held_is s.candidate u n i; wait = d i })) _ refl

    pub finds : (s : Pursuit) → s ≡ searched_at table p xs k candidate → (w : Waiting) → s.wait ≡ Some w
        → Finds table p xs from (due_of k (length xs) w (held_in s.candidate))
    finds s e w d = finds_held s e w d (held_in s.candidate) refl

  -- past the recording's end there is none
  pub finds_none : (from k : ℕ) → length xs < k → (candidate : Candidate)
      → ((t : Option ℕ) → (t' : Option ℕ) × ((rs : List Reply) → look_from table p xs from Nothing t rs ≡ look_from table p xs k candidate t' rs))
      → Finds table p xs from None
  unfolding Finds look_from
  finds_none from k past candidate before = λ t rs. (before t).1 rs ∙ rw (lt-ltb (length xs) k past)

-- A sample and a reply mark exactly what the rules say. Assumes nothing.
use Rattle.std.specs.Prelude.{Option, Some, None}
use mathlib.Core.Path.{◌≡◌, refl, sym, ap, ◌∙◌, subst}
use mathlib.Core.Logic.{◌⊎◌, inl, inr}
use mathlib.Core.Bool.{Bool, true, false, cond, true≢false}
use mathlib.Core.List.Memᴰ
use mathlib.Core.List.{List, [], ◌∷◌}
use Prim.Native.Nat.{ℕ, ◌+◌, ◌<◌}
use native.Mathlib.Omega.{arith}
use lib.Dec.{ltb}
use borrow.Author.Tests.{ltb-true, ltb-false}
use lib.IntN.{ℤ}
use lib.Ieee.{Float}
use Rattle.search.specs.declared.Candidate.{Candidate}
use Rattle.search.specs.declared.Candidate.TheVariants.{Nothing}
use Rattle.search.specs.declared.Waiting.{Waiting}
use Rattle.search.specs.declared.Control.{Control}
use Rattle.search.specs.declared.Shown.{Shown}
use Rattle.search.specs.declared.Reply.{Reply}
use Rattle.search.specs.declared.Reply.TheVariants.{Accepted, Rejected}
use Rattle.search.specs.TakenBurst.{TakenBurst, held_as, held_in, shown_of}
use Rattle.search.specs.Turn.{cleared}
use Rattle.search.proofs.HeldOrNot.{HeldOrNot, not_held, is_held, same_held}
use Rattle.demodulator_run.specs.Rules.{Single, sample, reply, History}
use Rattle.demodulator_run.specs.Marks.{Mark, First, Anew, Failed, FellDue, searched_marks, due_marks, waited_marks, sampled_marks, replied_marks}
use Rattle.demodulator_run.specs.Demands.{Ear, Alone, In}
use Rattle.demodulator_run.specs.Exact.{last_sample, Searches, BySearch, ByRules}
use Rattle.demodulator_run.proofs.Pass.{controlled}
use Rattle.demodulator_run.proofs.Phase.{Phase}
use Rattle.demodulator_run.proofs.SearchExact.{Exactly, search_exact}

-- ---- the two sources of a mark
module _ (ear : Ear) (h : History) (call : Single) where
  abbrev pub DueHere : Mark → Type 0
  DueHere (First n k) = ⊥
  DueHere (Anew n j k) = ⊥
  DueHere (Failed n k b) = ⊥
  DueHere (FellDue d x) = ByRules ear (FellDue d x) h call

  by_search : (c : Control) → Searches h call c → (y : Mark) → BySearch ear c y → ByRules ear y h call
  by_search c r (First n k) s = (c, r, s)
  by_search c r (Anew n j k) s = (c, r, s)
  by_search c r (Failed n k b) s = (c, r, s)
  by_search c r (FellDue d x) s = absurd s

  source : (y : Mark) → ByRules ear y h call → ((c : Control) × Searches h call c × BySearch ear c y) ⊎ DueHere y
  source (First n k) s = inl s
  source (Anew n j k) s = inl s
  source (Failed n k b) s = inl s
  source (FellDue d x) s = inr s

  -- no search runs, and no frame falls due
  pub nothing_exact : ((c : Control) → Searches h call c → ⊥) → ((y : Mark) → DueHere y → ⊥) → Exactly (λ (y : Mark). ByRules ear y h call) []
  nothing_exact none plain y = (λ i. absurd (Memᴰ.not-nil i), λ s. elim (source y s) [ inl r ↦ absurd (none r.0 r.1) | inr d ↦ absurd (plain y d) ])

  -- the search runs, and no frame falls due
  only_search : (c : Control) → Searches h call c → ((d : Control) → Searches h call d → d ≡ c) → ((y : Mark) → DueHere y → ⊥) → (m : List Mark) → Exactly (BySearch ear c) m
      → Exactly (λ (y : Mark). ByRules ear y h call) m
  only_search c r one plain m E y = (λ i. by_search c r y ((E y).0 i), λ s. elim (source y s) [ inl q ↦ (E y).1 (subst (λ (d : Control). BySearch ear d y) (one q.0 q.1) q.2) | inr d ↦ absurd (plain y d) ])

  -- a due frame needs a sample
  pub no_sample : ((x : ℤ) (room : List Float) → call ≡ sample x room → ⊥) → (y : Mark) → DueHere y → ⊥
  no_sample none (First n k) d = d
  no_sample none (Anew n j k) d = d
  no_sample none (Failed n k b) d = d
  no_sample none (FellDue n x) d = none d.0 d.1 d.2

  -- and a wait of 1
  no_wait : ((age : ℕ) (mark : Bool) → h.control.wait ≡ last_sample age mark → ⊥) → (y : Mark) → DueHere y → ⊥
  no_wait none (First n k) d = d
  no_wait none (Anew n j k) d = d
  no_wait none (Failed n k b) d = d
  no_wait none (FellDue n x) d = none x.age x.replaced d.4

pub free_due : {w : Waiting} → None ≡ Some w → ⊥
free_due e = let z : ◌≡◌ {A = ℕ} 0 1 = cc in omega arith

-- a wait's own parts
waiting : Option Waiting → Waiting → Waiting
waiting None w = w
waiting (Some w) v = w

pub same_wait : (w v : Waiting) → Some w ≡ Some v → w ≡ v
unfolding waiting
same_wait w v e = ap (λ (u : Option Waiting). waiting u w) e

module _ (ear : Ear) (p : ℕ) (alone : Alone ear) (xs : List ℤ) (t : Option ℕ) (o : Bool) (n : ℕ) where
  abbrev heard_with : Candidate → Option Waiting → History
  heard_with held wait = record { samples = xs; control = controlled held wait t o n }

  abbrev later : Option ℕ
  later = cleared (n + 1) t

  -- ---- a sample
  module _ (x : ℤ) (room : List Float) where
    free_exact : {candidate : Candidate} → HeldOrNot candidate
        → Exactly (λ (y : Mark). ByRules ear y (heard_with candidate None) (sample x room)) (searched_marks p (ear (n + 1)) (controlled candidate None later o (n + 1)))
    free_exact {candidate} held =
        only_search ear (heard_with candidate None) (sample x room) (controlled candidate None later o (n + 1)) (refl, refl)
        (λ d s. s.1) (no_wait ear (heard_with candidate None) (sample x room) (λ age mark. free_due)) _ (search_exact ear p alone (n + 1) held later o)

    module _ (held : TakenBurst) where
      longer_exact : (w : Waiting) → 1 < w.left → Exactly (λ (y : Mark). ByRules ear y (heard_with (held_as held) (Some w)) (sample x room)) []
      longer_exact w more =
          nothing_exact ear (heard_with (held_as held) (Some w)) (sample x room)
          (λ c s. free_due (sym s.0))
          (no_wait ear (heard_with (held_as held) (Some w)) (sample x room) (λ age mark e. omega (arith, ap (λ (u : Waiting). u.left) (same_wait w _ e))))

      module _ (age : ℕ) (mark : Bool) where
        abbrev h : History
        h = heard_with (held_as held) (last_sample age mark)

        abbrev shown : Shown
        shown = shown_of held age mark

        due_exact : Exactly (λ (y : Mark). ByRules ear y h (sample x room)) (FellDue (n + 1) shown ∷ [])
        due_exact y = (λ i. subst (λ (z : Mark). ByRules ear z h (sample x room)) (sym (Memᴰ.eq_of_singleton i)) (x, room, refl, refl, refl, (held, refl, refl)), back y)
          where
            here : (y : Mark) → DueHere ear h (sample x room) y → y ≡ FellDue (n + 1) shown
            here (First m j) d = absurd d
            here (Anew m i j) d = absurd d
            here (Failed m j b) d = absurd d
            here (FellDue m z) d =
                let a : m ≡ n + 1 = d.3 in
                let w = same_wait (record { left = 1; age = age; replaced = mark }) _ d.4 in
                let ages : age ≡ z.age = ap (λ (u : Waiting). u.age) w in
                let marks : mark ≡ z.replaced = ap (λ (u : Waiting). u.replaced) w in
                let same : held ≡ d.5.0 = same_held held d.5.0 d.5.1 in
                let f : shown ≡ z = ap (λ (t : TakenBurst). shown_of t age mark) same ∙ ap (λ (i : ℕ). shown_of d.5.0 i mark) ages ∙ ap (shown_of d.5.0 z.age) marks ∙ d.5.2 in
                cc

            back : (y : Mark) → ByRules ear y h (sample x room) → In y (FellDue (n + 1) shown ∷ [])
            back y s = elim (source ear h (sample x room) y s) [ inl q ↦ absurd (free_due (sym q.1.0)) | inr d ↦ Memᴰ.head (here y d) ]

      wait_exact : (w : Waiting) → 0 < w.left → (b : Bool) → ltb 1 w.left ≡ b
          → Exactly (λ (y : Mark). ByRules ear y (heard_with (held_as held) (Some w)) (sample x room))
          (cond b [] (due_marks p (ear (n + 1)) (Some held) w (controlled Nothing None later o (n + 1))))
      wait_exact w more true e = longer_exact w (ltb-true 1 w.left e)
      wait_exact w more false e =
          let marks : List Mark = due_marks p (ear (n + 1)) (Some held) w (controlled Nothing None later o (n + 1)) in
          subst (λ (m : ℕ). Exactly (λ (y : Mark). ByRules ear y (heard_with (held_as held) (Some (record { left = m; age = w.age; replaced = w.replaced }))) (sample x room)) marks) {x = 1} {y = w.left}
          (let u = ltb-false 1 w.left e in omega arith) (unfold due_marks in due_exact w.age w.replaced)

    pub sample_exact : (l : List Mark) {candidate : Candidate} → HeldOrNot candidate → (wait : Option Waiting) → Phase ear p l n (held_in candidate) wait o
        → Exactly (λ (y : Mark). ByRules ear y (heard_with candidate wait) (sample x room)) (sampled_marks p (ear (n + 1)) (controlled candidate wait t o n))
    unfolding sampled_marks waited_marks
    sample_exact l not_held None I = free_exact not_held
    sample_exact l not_held (Some w) I = absurd I
    sample_exact l (is_held held) None I = free_exact (is_held held)
    sample_exact l (is_held held) (Some w) I = wait_exact held w I.1.some (ltb 1 w.left) refl

  -- ---- a reply, while one is owed
  reply_sample : (r : Reply) (x : ℤ) (room : List Float) → reply r ≡ sample x room → ⊥
  reply_sample r x room e = let z : ◌≡◌ {A = ℕ} 0 1 = cc in omega arith

  idle_exact : (r : Reply) → Exactly (λ (y : Mark). ByRules ear y (heard_with Nothing None) (reply r)) (replied_marks p (ear n) r (controlled Nothing None t o n))
  unfolding replied_marks
  idle_exact Accepted = nothing_exact ear (heard_with Nothing None) (reply Accepted) (λ c s. s) (no_sample ear (heard_with Nothing None) (reply Accepted) (reply_sample Accepted))
  idle_exact Rejected =
      only_search ear (heard_with Nothing None) (reply Rejected) (controlled Nothing None t false n) refl (λ d s. s) (no_sample ear (heard_with Nothing None) (reply Rejected) (reply_sample Rejected)) _
      (search_exact ear p alone n not_held t false)

  pub reply_exact : (l : List Mark) (r : Reply) {candidate : Candidate} → HeldOrNot candidate → (wait : Option Waiting) → o ≡ true → Phase ear p l n (held_in candidate) wait o
      → Exactly (λ (y : Mark). ByRules ear y (heard_with candidate wait) (reply r)) (replied_marks p (ear n) r (controlled candidate wait t o n))
  reply_exact l r not_held None e I = idle_exact r
  reply_exact l r not_held (Some w) e I = absurd I
  reply_exact l r (is_held held) None e I = absurd (true≢false (sym e ∙ I.0))
  reply_exact l r (is_held held) (Some w) e I = absurd (true≢false (sym e ∙ I.0))

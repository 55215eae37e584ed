-- The rule of the due sample, both ways, from the invariant. Assumes nothing.
use Rattle.std.specs.Prelude.{Some, None, Option}
use Rattle.search.specs.declared.Waiting.{Waiting}
use mathlib.Core.Path.{◌≡◌, refl, sym, ap, ◌∙◌, subst}
use mathlib.Core.Logic.{◌⊎◌, inl, inr}
use mathlib.Core.Bool.{Bool, true, false}
use mathlib.Core.List.{List}
use Prim.Native.Nat.{ℕ, ◌+◌, ◌-◌, ◌*◌, ◌≤◌, ◌<◌}
use native.Mathlib.Nat.{lt_of_not-le}
use native.Mathlib.Omega.{arith}
use lib.Dec.{T}
use lib.Ieee.{lt}
use Rattle.numbers.proofs.Tests.{holds}
use Rattle.protocol.specs.declared.Kind.{Kind}
use Rattle.protocol.specs.declared.SyncBurst.TheVariants.{Frame}
use Rattle.decode.specs.Correlator.{matches}
use Rattle.search.specs.declared.Shown.{Shown}
use Rattle.search.specs.declared.Control.{Control}
use Rattle.search.specs.TakenBurst.{TakenBurst, held_in, shown_of}
use Rattle.search.specs.Search.{rank}
use Rattle.demodulator_run.specs.Marks.{Mark, FellDue}
use Rattle.demodulator_run.specs.Demands.{SymbolSize, Ear, at, Matches, Unmatched, Above, Alone, NotAgain, In, Taken, Fails, Corner, Replaces, shown_at, DueBy, Cause, DueRule}
use Rattle.demodulator_run.proofs.KindOrder.{Place, Before, Level, After, place, Placed, placed, rank_only, same_self, same→≡, no→⊥, T-clash, heard}
use Rattle.demodulator_run.proofs.Account.{Episode, HandedOn, Account}
use Rattle.demodulator_run.proofs.Phase.{Phase, Kept, kept_past, kept_told, run_short}

module _ (ear : Ear) (p : ℕ) (alone : Alone ear) where
  -- ---- b, kind and s settle the due sample and what is shown
  module _ (b : ℕ) (k : Kind) (s : ℕ) where
    one_due : (d e : ℕ) → (Corner ear b k s × (d + 1 ≡ b + 184 * p)) ⊎ ((Corner ear b k s → ⊥) × (d ≡ b + 184 * p))
        → (Corner ear b k s × (e + 1 ≡ b + 184 * p)) ⊎ ((Corner ear b k s → ⊥) × (e ≡ b + 184 * p)) → d ≡ e
    one_due d e (inl u) (inl v) = let a = u.1 in let c = v.1 in omega arith
    one_due d e (inl u) (inr v) = absurd (v.0 u.0)
    one_due d e (inr u) (inl v) = absurd (u.0 v.0)
    one_due d e (inr u) (inr v) = u.1 ∙ sym v.1

    -- what is shown, with the age at which the wait was set
    abbrev Shows : Shown → ℕ → Type 0
    Shows x age = ((j : Kind) × Replaces ear b k s j × (x ≡ shown_at ear j s age true)) ⊎ (((j : Kind) → Replaces ear b k s j → ⊥) × (x ≡ shown_at ear k b age false))

    one_shown : (x y : Shown) (age : ℕ) → Shows x age → Shows y age → x ≡ y
    one_shown x y age (inl u) (inl v) = u.2 ∙ ap (λ (j : Kind). shown_at ear j s age true) (alone u.0 v.0 s u.1.1 v.1.1) ∙ sym v.2
    one_shown x y age (inl u) (inr v) = absurd (v.0 u.0 u.1)
    one_shown x y age (inr u) (inl v) = absurd (u.0 v.0 v.1)
    one_shown x y age (inr u) (inr v) = u.1 ∙ sym v.1

    pub decided : (d e : ℕ) (x y : Shown) → DueBy ear p b k s d x → DueBy ear p b k s e y → (d ≡ e) × (x ≡ y)
    decided d e x y D E =
        let same : d ≡ e = one_due d e D.sample E.sample in
        let ages : y.age ≡ x.age = omega (arith, D.waited, E.waited, same) in
        (same, one_shown x y x.age D.shown (subst (Shows y) ages E.shown))

    -- .. and there is always one
    module _ (big : SymbolSize p) where
      abbrev OneDue : Type 0
      OneDue = (d : ℕ) × (x : Shown) × DueBy ear p b k s d x

      -- the age at which a wait was set on s that ends on d
      abbrev aged : ℕ → ℕ
      aged d = (s + 184 * p) - d

      no_corner : (Corner ear b k s → ⊥) → ((j : Kind) × Replaces ear b k s j) ⊎ ((j : Kind) → Replaces ear b k s j → ⊥) → OneDue
      no_corner c (inl r) = (b + 184 * p, shown_at ear r.0 s (aged (b + 184 * p)) true, record { sample = inr (c, refl); waited = refl; shown = inl (r.0, r.1, refl) })
      no_corner c (inr r) = (b + 184 * p, shown_at ear k b (aged (b + 184 * p)) false, record { sample = inr (c, refl); waited = refl; shown = inr (r, refl) })

      by_hit : (j : Kind) → Matches ear j s → ((i : Kind) → Matches ear i s → i ≡ j) → (o : Place) → Placed o j k → (a : Bool) → lt (at ear k b).diff (at ear j s).diff ≡ a → OneDue
      by_hit j hit only Before r true e = (
        b + (184 * p - 1),
        shown_at ear k b (aged (b + (184 * p - 1))) false,
        record { sample = inl ((j, r, hit, holds e), omega arith); waited = refl; shown = inr (λ i q. omega (arith, q.0, ap rank (only i q.1)), refl) },
      )
      by_hit j hit only Before r false e =
          no_corner (λ c. no→⊥ e (subst (λ (i : Kind). Above ear i s k b) (only c.0 c.2) c.3)) (inr (λ i q. omega (arith, q.0, ap rank (only i q.1))))
      by_hit j hit only Level r a e = no_corner (λ c. omega (arith, c.1, ap rank (only c.0 c.2), ap rank r)) (inr (λ i q. omega (arith, q.0, ap rank (only i q.1), ap rank r)))
      by_hit j hit only After r true e =
          no_corner (λ c. omega (arith, c.1, ap rank (only c.0 c.2))) (inr (λ i q. q.2 (subst (λ (h : Kind). Above ear h s k b) (sym (only i q.1)) (holds e))))
      by_hit j hit only After r false e = no_corner (λ c. omega (arith, c.1, ap rank (only c.0 c.2))) (inl (j, (r, hit, no→⊥ e)))

      pub settled : OneDue
      settled = elim (heard (ear s) (λ i j. alone i j s)) [
        | inl q ↦ no_corner (λ c. no→⊥ (q c.0) c.2) (inr (λ j r. no→⊥ (q j) r.1))
        | inr q ↦ by_hit q.0 (subst T (sym (q.1 q.0)) (same_self q.0)) (λ i m. sym (same→≡ q.0 i (subst T (q.1 i) m))) (place q.0 k) (placed q.0 k) _ refl
      ]

  -- ---- where a candidate fails
  clash : (k : Kind) (n : ℕ) → Matches ear k n → Unmatched ear k n → ⊥
  clash k n = T-clash (matches (Frame k) (ear n))

  fails_order : {l : List Mark} {b : ℕ} {k : Kind} {s t : ℕ} → Fails ear l b k s → Fails ear l b k t → s ≤ t
  fails_order {b = b} {k = k} {s = s} {t = t} F G = let o : s < t + 1 = lt_of_not-le λ (h : t + 1 ≤ s). clash k t (F.matched t (let u = G.later in omega arith) (omega arith)) G.lost in omega arith

  pub same_end : {l : List Mark} {b : ℕ} {k : Kind} {s t : ℕ} → Fails ear l b k s → Fails ear l b k t → s ≡ t
  same_end F G = let u = fails_order F G in let v = fails_order G F in omega arith

  -- a candidate that was handed on fails nowhere
  handed_clash : {l : List Mark} {b : ℕ} {k : Kind} {s : ℕ} → ((c : ℕ) (j : Kind) → Taken l c j → Matches ear j c) → HandedOn ear p l b k → Fails ear l b k s → ⊥
  handed_clash {l} {b} {k} {s} genuine H F =
      let u : s < H.to + 1 = lt_of_not-le λ (o : H.to + 1 ≤ s). F.last H.to H.kind H.later (omega arith) H.taken in
      let v : H.to < s + 1 = lt_of_not-le λ (o : s + 1 ≤ H.to). clash k s (H.matched s (let w = F.later in omega arith) (omega arith)) F.lost in
      let e : H.to ≡ s = omega arith in
      let t : Taken l s H.kind = subst (λ (c : ℕ). Taken l c H.kind) e H.taken in
      let w : rank k < rank H.kind + 1 = lt_of_not-le λ (o : rank H.kind + 1 ≤ rank k). F.kept H.kind (omega arith) t in
      let same : H.kind ≡ k = rank_only H.kind k (let x = H.listed in omega arith) in
      clash k s (subst (λ (i : Kind). Matches ear i s) same (genuine s H.kind t)) F.lost

  -- ---- from the invariant
  module _ (big : SymbolSize p) (again : NotAgain ear p) (l : List Mark) where
    fails_soon : {b : ℕ} {k : Kind} {s d : ℕ} {x : Shown} → Fails ear l b k s → DueBy ear p b k s d x → s < d
    fails_soon {b} {k} {s} F D =
        let o = F.later in
        let u = run_short ear p again k b (s - 1) (omega arith) (λ j v w. F.matched j v (omega arith)) in
        elim D.sample [ inl c ↦ let e = c.1 in omega arith | inr c ↦ let e = c.1 in omega arith ]

    -- a candidate that failed and whose frame's time has come: the frame has fallen due
    abbrev Ended : ℕ → ℕ → Kind → ℕ → ℕ → Shown → Type 0
    Ended n b k s d x = Fails ear l b k s → DueBy ear p b k s d x → d ≤ n → (m : ℕ) × Episode ear p l m b k s d x × In (FellDue d x) l

    ended_by : {n : ℕ} {Now : ℕ → Type 0} {Here : ℕ → Kind → Type 0} → Account ear p l n Now Here
        → ((b : ℕ) (k : Kind) (s d : ℕ) (x : Shown) → Here b k → Fails ear l b k s → DueBy ear p b k s d x → d ≤ n → ⊥)
        → (b : ℕ) (k : Kind) (s d : ℕ) (x : Shown) → Ended n b k s d x
    ended_by A here b k s d x F D o = elim (A.fates b k F.standing) [
      | inl h ↦ absurd (handed_clash A.genuine h F)
      | inr r ↦ elim r [
        | inl c ↦
            let C = c.1 in
            let e : C.s ≡ s = same_end C.episode.fails F in
            let E : Episode ear p l c.0 b k s C.d C.x = subst (λ (t : ℕ). Episode ear p l c.0 b k t C.d C.x) e C.episode in
            let (u, v) = decided b k s C.d d C.x x E.due D in (
              c.0,
              subst (Episode ear p l c.0 b k s d) v (subst (λ (f : ℕ). Episode ear p l c.0 b k s f C.x) u E),
              subst (λ (z : Shown). In (FellDue d z) l) v (subst (λ (f : ℕ). In (FellDue f C.x) l) u C.fell),
            )
        | inr q ↦ absurd (here b k s d x q F D o)
      ]
    ]

    ended : (n : ℕ) (o : Option TakenBurst) (wait : Option Waiting) (owed : Bool) → Phase ear p l n o wait owed → (b : ℕ) (k : Kind) (s d : ℕ) (x : Shown) → Ended n b k s d x
    ended n None None owed I = ended_by I (λ b k s d x q F D o. q)
    ended n None (Some w) owed I = absurd I
    ended n (Some held) None owed I = ended_by I.1.busy.account λ b k s d x q F D o.
        let H = I.1 in
        let u = fails_soon F D in
        let v = F.later in
        let w = H.within in
        let e = q.0 in
        clash k s (subst (λ (i : Kind). Matches ear i s) (sym q.1) (H.matched s (omega arith) (omega arith))) F.lost
    ended n (Some held) (Some w) owed I = ended_by I.1.busy.account λ b k s d x q F D o.
        let W = I.1 in
        let G : Fails ear l W.b W.kind s = subst (λ (i : Kind). Fails ear l W.b i s) q.1 (subst (λ (c : ℕ). Fails ear l c k s) q.0 F) in
        let D' : DueBy ear p W.b W.kind s d x = subst (λ (i : Kind). DueBy ear p W.b i s d x) q.1 (subst (λ (c : ℕ). DueBy ear p c k s d x) q.0 D) in
        let y : Shown = shown_of held w.age w.replaced in
        let E : DueBy ear p W.b W.kind s (n + w.left) y = subst (λ (t : ℕ). DueBy ear p W.b W.kind t (n + w.left) y) (same_end W.episode.fails G) W.episode.due in
        let f : d ≡ n + w.left = (decided W.b W.kind s d (n + w.left) x y D' E).0 in
        let u = W.some in
        omega arith

  pub due_rule_of : (big : SymbolSize p) (again : NotAgain ear p) (l : List Mark) (c : Control) → Kept ear p l c → DueRule ear p c.sample l
  due_rule_of big again l c I = record {
    exact = λ d x. (
      λ i. let (m, b, k, s, E) = kept_told ear p l c I d x i in (kept_past ear p l c I (FellDue d x) i, record { b = b; kind = k; s = s; fails = E.fails; due = E.due }),
      λ q. (over d x q.1 q.0).2,
    );
    set = λ d x o A. (over d x A o).1.failed;
    only = only;
    settled = λ b k s. settled b k s big;
    decided = decided;
  }
    where
      over : (d : ℕ) (x : Shown) (A : Cause ear p l d x) → d ≤ c.sample → (m : ℕ) × Episode ear p l m A.b A.kind A.s d x × In (FellDue d x) l
      over d x A o = ended big again l c.sample (held_in c.candidate) c.wait c.owed I A.b A.kind A.s d x A.fails A.due o

      -- neither is taken while the other's frame is awaited
      not_after : (d : ℕ) (x y : Shown) → d ≤ c.sample → (A : Cause ear p l d x) (B : Cause ear p l d y) → A.b ≤ B.b
      not_after d x y o A B =
          let u : A.b < B.b + 1 = lt_of_not-le λ (h : B.b + 1 ≤ A.b).
          let v = A.fails.later in
          let w = (over d x A o).1.before in
          (over d y B o).1.quiet A.b A.kind A.fails.standing (omega arith) (omega arith) in
          omega arith

      only : (d : ℕ) (x y : Shown) → d ≤ c.sample → (A : Cause ear p l d x) (B : Cause ear p l d y) → (A.b ≡ B.b) × (A.kind ≡ B.kind) × (A.s ≡ B.s) × (x ≡ y)
      only d x y o A B =
          let u = not_after d x y o A B in
          let v = not_after d y x o B A in
          let here : B.b ≡ A.b = omega arith in
          let other : Matches ear B.kind A.b = subst (Matches ear B.kind) here (B.fails.matched B.b (omega arith) B.fails.later) in
          let kinds : B.kind ≡ A.kind = alone B.kind A.kind A.b other (A.fails.matched A.b (omega arith) A.fails.later) in
          let F : Fails ear l A.b A.kind B.s = subst (λ (i : Kind). Fails ear l A.b i B.s) kinds (subst (λ (a : ℕ). Fails ear l a B.kind B.s) here B.fails) in
          let ends : B.s ≡ A.s = same_end F A.fails in
          let D : DueBy ear p A.b A.kind A.s d y =
          subst (λ (a : ℕ). DueBy ear p A.b A.kind a d y) ends (subst (λ (i : Kind). DueBy ear p A.b i B.s d y) kinds (subst (λ (a : ℕ). DueBy ear p a B.kind B.s d y) here B.due)) in
          (sym here, sym kinds, sym ends, (decided A.b A.kind A.s d d x y A.due D).1)

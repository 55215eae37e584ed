-- A candidate is held, and at the next sample its kind does not match: the wait is set, and the episode that ends in a due frame is known. Assumes nothing.
use mathlib.Core.Path.{◌≡◌, refl, sym, ap, subst}
use mathlib.Core.Logic.{◌⊎◌, inl, inr}
use mathlib.Core.Bool.{true, false}
use mathlib.Core.List.{List}
use Prim.Native.Nat.{ℕ, ◌+◌, ◌-◌, ◌*◌, ◌≤◌, ◌<◌}
use native.Mathlib.Omega.{arith}
use Rattle.protocol.specs.declared.Kind.{Kind}
use Rattle.search.specs.declared.Waiting.{Waiting}
use Rattle.search.specs.declared.Shown.{Shown}
use Rattle.search.specs.TakenBurst.{TakenBurst, at_age, shown_of}
use Rattle.search.specs.Search.{rank}
use Rattle.demodulator_run.specs.Marks.{Mark, Anew, Failed}
use Rattle.demodulator_run.specs.Demands.{SymbolSize, Ear, Matches, Unmatched, Above, In, Started, Taken, Standing, NotAgain, shown_at, DueBy, Corner, taken_at_lem}
use Rattle.demodulator_run.proofs.Log.{more, old, new, taken_either, standing_either, shown_either, started_old, standing_old, stood}
use Rattle.demodulator_run.proofs.Account.{SomeMatch, Episode, account_more}
use Rattle.demodulator_run.proofs.Phase.{Busy, TakenFrom, Holding, Awaiting}
use Rattle.demodulator_run.proofs.Hold.{young, near}
use Rattle.demodulator_run.proofs.Pass.{wait_from}

module _ (ear : Ear) (p : ℕ) (big : SymbolSize p) (again : NotAgain ear p) (l : List Mark) (n : ℕ) (held : TakenBurst)
    (H : Holding ear p l n held) (lost : Unmatched ear held.kind (n + 1)) where
  abbrev k : Kind
  k = held.kind

  abbrev failing : Mark
  failing = Failed (n + 1) k held.taken_at

  -- what the marks of that sample may add: a take by a later-listed kind, which does not stand
  record Adds (l' : List Mark) : Type 0 where
    started : Started l' H.first
    standing : Standing l' H.b k
    stands : (j : ℕ) (i : Kind) → Standing l' j i → Standing l j i
    takes : (j : ℕ) (i : Kind) → Taken l' j i → Taken l j i ⊎ ((j ≡ n + 1) × (rank k < rank i))
    busy : Busy ear p l' (n + 1) H.first H.b k
    failed : In failing l'

  abbrev taking : Kind → Mark
  taking j = Anew (n + 1) k j

  -- the log with the failure, and with a replacement too
  abbrev failed : List Mark
  failed = more l failing

  abbrev replacing : Kind → List Mark
  replacing j = more failed (taking j)

  busy_plain : Busy ear p failed (n + 1) H.first H.b k
  busy_plain = record {
    account = account_more ear p l failing H.busy.account (omega arith) (λ (i : ℕ). i ≡ H.first) (λ (c : ℕ) (i : Kind). (c ≡ H.b) × (i ≡ k))
        (λ b i t. absurd t) (λ d x q. q) (λ m q. q) (λ m q. absurd q) (λ b i q. inr q) (λ b i q. absurd q);
    frames = λ e f. let (x, i) = f in elim (shown_either l failing x i) [ inl q ↦ H.busy.frames e (x, q) | inr q ↦ absurd q ];
    started = started_old l failing H.busy.started;
  }

  plain : Adds failed
  plain = record {
    started = started_old l failing H.busy.started;
    standing = standing_old l failing H.standing;
    stands = λ j i t. elim (standing_either l failing t) [ inl q ↦ q | inr q ↦ absurd q ];
    takes = λ j i t. elim (taken_either l failing t) [ inl q ↦ inl q | inr q ↦ absurd q ];
    busy = busy_plain;
    failed = new l failing;
  }

  -- a later-listed kind replaces the candidate there
  replaced : (j : Kind) → rank k < rank j → Matches ear j (n + 1) → Adds (replacing j)
  replaced j after hit = record {
    started = started_old failed (taking j) plain.started;
    standing = standing_old failed (taking j) plain.standing;
    stands = λ h i t. elim (standing_either failed (taking j) t) [ inl q ↦ plain.stands h i q | inr q ↦ absurd (omega (arith, q.2)) ];
    takes = λ h i t. elim (taken_either failed (taking j) t) [
      | inl q ↦ plain.takes h i q
      | inr q ↦ inr (q.0, subst (λ (g : Kind). rank k < rank g) (sym q.1) after)
    ];
    busy = record {
      account = account_more ear p failed (taking j) busy_plain.account (omega arith) (λ (i : ℕ). i ≡ H.first) (λ (c : ℕ) (i : Kind). (c ≡ H.b) × (i ≡ k))
          (λ b i t. subst (λ (h : Kind). Matches ear h b) (sym t.1) (subst (Matches ear j) (sym t.0) hit))
          (λ d x q. q) (λ m q. q) (λ m q. absurd q) (λ b i q. inr q) (λ b i q. absurd (omega (arith, q.2)));
      frames = λ e f.
          let (x, i) = f in
          elim (shown_either failed (taking j) x i) [ inl q ↦ busy_plain.frames e (x, q) | inr q ↦ absurd q ];
      started = started_old failed (taking j) busy_plain.started;
    };
    failed = old failed (taking j) plain.failed;
  }

  since : held.taken_at ≡ H.b
  since = ap (λ (t : TakenBurst). t.taken_at) H.values

  module _ (l' : List Mark) (A : Adds l') where
    episode_of : (d : ℕ) (x : Shown) → n + 1 < d → DueBy ear p H.b k (n + 1) d x → Episode ear p l' H.first H.b k (n + 1) d x
    episode_of d x before due = record {
      fails = record {
        standing = A.standing;
        later = let u = H.reached in omega arith;
        matched = λ j u v. H.matched j (let w = H.within in omega arith) (omega arith);
        larger = λ j u v. H.larger j u (omega arith);
        last = λ j i u v t. elim (A.takes j i t) [ inl q ↦ H.last j i u q | inr q ↦ omega (arith, q.0) ];
        kept = λ i u t. elim (A.takes (n + 1) i t) [ inl q ↦ H.last (n + 1) i (let w = H.reached in omega arith) q | inr q ↦ omega (arith, q.1) ];
        lost = lost;
      };
      due = due;
      started = A.started;
      after = let u = H.begun in let v = H.within in omega arith;
      near = near ear p again l n held H;
      all = λ j u v. H.all j u (omega arith);
      before = before;
      failed = subst (λ (b : ℕ). In (Failed (n + 1) k b) l') since A.failed;
      quiet = λ j i t u v. H.last j i u (stood (A.stands j i t));
    }

    -- the frame is due once the wait is over
    awaits : (w : Waiting) (now : TakenBurst) (source : ℕ) → p < w.left → w.left < 184 * p → 0 < now.age
        → (now.age + H.b ≤ n + 1) ⊎ ((now.age + H.b ≤ n + 2) × SomeMatch ear p (n + 1))
        → Matches ear now.kind source → TakenFrom ear p now source
        → DueBy ear p H.b k (n + 1) ((n + 1) + w.left) (shown_of now w.age w.replaced) → Awaiting ear p l' (n + 1) w now
    awaits w now source some short born aged heard values due = record {
      first = H.first;
      b = H.b;
      kind = k;
      s = n + 1;
      busy = A.busy;
      episode = episode_of ((n + 1) + w.left) _ (omega arith) due;
      over = omega arith;
      some = omega arith;
      short = short;
      born = born;
      aged = elim aged [ inl u ↦ inl u | inr u ↦ let o = u.0 in inr (omega arith, u.1) ];
      source = source;
      heard = heard;
      values = values;
    }

  own : Matches ear k H.b
  own = H.matched H.b H.within H.reached

  mine : (age : ℕ) → shown_of held age false ≡ shown_at ear k H.b age false
  mine age = ap (λ (t : TakenBurst). shown_of t age false) H.values

  abbrev aged_one : TakenBurst
  aged_one = at_age (held.age + 1) held

  -- no kind matches
  pub fails_alone : ((j : Kind) → Matches ear j (n + 1) → ⊥) → Awaiting ear p failed (n + 1) (wait_from p held.age false) held
  fails_alone none =
      let y = young ear p again l n held H in
      let a = H.aged in
      let r = H.reached in
      awaits failed plain (wait_from p held.age false) held H.b (omega arith) (omega arith) (omega arith) (inl (omega arith)) own H.values
      (record { sample = inr (λ c. none c.0 c.2, omega arith); waited = omega arith; shown = inr (λ j c. none j c.1, mine held.age) })

  module _ (j : Kind) (hit : Matches ear j (n + 1)) (only : (i : Kind) → Matches ear i (n + 1) → i ≡ j) where
    -- an earlier-listed kind matches with a larger diff: the corner
    pub fails_corner : rank j < rank k → Above ear j (n + 1) k H.b → Awaiting ear p failed (n + 1) (wait_from p (held.age + 1) false) aged_one
    fails_corner before above =
        let y = young ear p again l n held H in
        let a = H.aged in
        let r = H.reached in
        awaits failed plain (wait_from p (held.age + 1) false) aged_one H.b (omega arith) (omega arith) (omega arith) (inr (omega arith, (j, hit))) own (ap (at_age (held.age + 1)) H.values)
        (record { sample = inl ((j, before, hit, above), omega arith); waited = omega arith; shown = inr (λ i c. omega (arith, c.0, ap rank (only i c.1)), mine (held.age + 1)) })

    no_corner : rank k < rank j → Corner ear H.b k (n + 1) → ⊥
    no_corner after c = omega (arith, c.1, ap rank (only c.0 c.2))

    -- a later-listed kind only adds to the age
    pub fails_aged : rank k < rank j → Above ear j (n + 1) k H.b → Awaiting ear p failed (n + 1) (wait_from p held.age false) aged_one
    fails_aged after above =
        let y = young ear p again l n held H in
        let a = H.aged in
        let r = H.reached in
        awaits failed plain (wait_from p held.age false) aged_one H.b (omega arith) (omega arith) (omega arith) (inr (omega arith, (j, hit))) own (ap (at_age (held.age + 1)) H.values)
        (record {
          sample = inr (no_corner after, omega arith);
          waited = omega arith;
          shown = inr (λ i c. c.2 (subst (λ (h : Kind). Above ear h (n + 1) k H.b) (sym (only i c.1)) above), mine held.age);
        })

    -- a later-listed kind replaces the candidate
    pub fails_replaced : rank k < rank j → (Above ear j (n + 1) k H.b → ⊥)
        → Awaiting ear p (replacing j) (n + 1) (wait_from p held.age true) (taken_at_lem ear j (n + 1))
    fails_replaced after below =
        let y = young ear p again l n held H in
        let a = H.aged in
        let r = H.reached in
        awaits (replacing j) (replaced j after hit) (wait_from p held.age true) (taken_at_lem ear j (n + 1)) (n + 1) (omega arith) (omega arith) (omega arith) (inl (omega arith)) hit refl
        (record { sample = inr (no_corner after, omega arith); waited = omega arith; shown = inl (j, (after, hit, below), refl) })

-- A candidate is held, and at the next sample no wait is set: it ages, or it is taken anew. Assumes nothing.
use mathlib.Core.Path.{◌≡◌, refl, sym, subst, ap}
use mathlib.Core.Logic.{inl, inr}
use mathlib.Core.List.{List}
use Prim.Native.Nat.{ℕ, ◌+◌, ◌*◌, ◌≤◌, ◌<◌}
use native.Mathlib.Nat.{lt_of_not-le, mul-le-mul_left}
use native.Mathlib.Omega.{arith}
use Rattle.machine.specs.Runs.{run}
use Rattle.protocol.specs.declared.Kind.{Kind}
use Rattle.search.specs.TakenBurst.{TakenBurst, at_age}
use Rattle.search.specs.Search.{rank}
use Rattle.demodulator_run.specs.Marks.{Mark, Anew}
use Rattle.demodulator_run.specs.Demands.{Ear, Matches, Above, Taken, NotAgain, taken_at_lem}
use Rattle.demodulator_run.proofs.Log.{more, new, taken_either, shown_either, started_old}
use Rattle.demodulator_run.proofs.Account.{SomeMatch, HandedOn, account_more}
use Rattle.demodulator_run.proofs.Phase.{Busy, Holding, busy_later, run_short, extend}

module _ (ear : Ear) (p : ℕ) (again : NotAgain ear p) (l : List Mark) (n : ℕ) (held : TakenBurst) (H : Holding ear p l n held) where
  abbrev k : Kind
  k = held.kind

  pub recent : n < H.run + p
  recent = run_short ear p again k H.run n (let u = H.within in let v = H.reached in omega arith) H.matched

  pub young : held.age ≤ p
  young = let u = H.within in let v = H.aged in let w = recent in omega arith

  pub first_past : H.first ≤ n
  first_past = let u = H.begun in let v = H.within in let w = H.reached in omega arith

  pub near : H.b < H.first + 4 * p
  near = let u = H.soon in let v = recent in let w = H.reached in omega arith

  pub taken_past : (j : ℕ) (i : Kind) → Taken l j i → j ≤ H.b
  taken_past j i t = let u : j < H.b + 1 = lt_of_not-le λ (o : H.b + 1 ≤ j). H.last j i (omega arith) t in omega arith

  -- its own kind matches, with a larger diff
  pub ages : Matches ear k (n + 1) → Above ear k (n + 1) k H.b → Holding ear p l (n + 1) (at_age (held.age + 1) held)
  ages hit above = record {
    first = H.first;
    run = H.run;
    b = H.b;
    busy = busy_later ear p (omega arith) H.busy;
    standing = H.standing;
    begun = H.begun;
    within = H.within;
    reached = let u = H.reached in omega arith;
    soon = H.soon;
    aged = let u = H.aged in omega arith;
    matched = extend ear p (Matches ear k) H.run n H.matched hit;
    larger = λ j u v. extend ear p (λ (i : ℕ). Above ear k i k H.b) (H.b + 1) n (λ i s t. H.larger i (omega arith) t) above j (omega arith) v;
    last = H.last;
    all = extend ear p (SomeMatch ear p) H.first n H.all (k, hit);
    values = ap (at_age (held.age + 1)) H.values;
  }

  abbrev taking : Kind → Mark
  taking j = Anew (n + 1) k j

  abbrev handing : Kind → List Mark
  handing j = more l (taking j)

  -- kind j is taken in its place; j's own matches began at `run`
  module _ (j : Kind) (listed : rank j ≤ rank k) (hit : Matches ear j (n + 1)) where
    handed_busy : Busy ear p (handing j) (n + 1) H.first (n + 1) j
    handed_busy =
        let here : HandedOn ear p (handing j) H.b k = record {
          to = n + 1;
          kind = j;
          later = let u = H.reached in omega arith;
          taken = inr (k, new l (taking j));
          listed = listed;
          matched = λ i u v. H.matched i (let w = H.within in omega arith) (omega arith);
        } in
        record {
          account = account_more ear p l (taking j) H.busy.account (omega arith) (λ (i : ℕ). i ≡ H.first) (λ (c : ℕ) (i : Kind). (c ≡ n + 1) × (i ≡ j))
              (λ b i t. subst (λ (h : Kind). Matches ear h b) (sym t.1) (subst (Matches ear j) (sym t.0) hit))
              (λ d x q. q) (λ m q. q) (λ m q. absurd q)
              (λ b i q. inl (subst (λ (c : ℕ). HandedOn ear p (handing j) c i) (sym q.0) (subst (λ (h : Kind). HandedOn ear p (handing j) H.b h) (sym q.1) here)))
              (λ b i q. (q.0, q.1));
          frames = λ e f. let (x, i) = f in elim (shown_either l (taking j) x i) [ inl q ↦ H.busy.frames e (x, q) | inr q ↦ absurd q ];
          started = started_old l (taking j) H.busy.started;
        }

    pub handed : (run : ℕ) → H.first ≤ run → run ≤ n + 1 → run + p * rank j ≤ H.first + 3 * p → ((i : ℕ) → run ≤ i → i ≤ n + 1 → Matches ear j i)
        → Holding ear p (handing j) (n + 1) (taken_at_lem ear j (n + 1))
    handed run begun reached soon m = record {
      first = H.first;
      run = run;
      b = n + 1;
      busy = handed_busy;
      standing = inr (k, new l (taking j), listed);
      begun = begun;
      within = reached;
      reached = omega arith;
      soon = soon;
      aged = omega arith;
      matched = m;
      larger = λ i u v. absurd (omega arith);
      last = λ i h u t. elim (taken_either l (taking j) t) [ inl q ↦ let v = taken_past i h q in let w = H.reached in omega arith | inr q ↦ omega (arith, q.0) ];
      all = extend ear p (SomeMatch ear p) H.first n H.all (j, hit);
      values = refl;
    }

  -- the same kind, with no larger diff
  pub renewed : Matches ear k (n + 1) → Holding ear p (handing k) (n + 1) (taken_at_lem ear k (n + 1))
  renewed hit = handed k (omega arith) hit H.run H.begun (let u = H.within in let v = H.reached in omega arith) H.soon (extend ear p (Matches ear k) H.run n H.matched hit)

  -- an earlier-listed kind, with no larger diff
  pub switched : (j : Kind) → rank j < rank k → Matches ear j (n + 1)
      → Holding ear p (handing j) (n + 1) (taken_at_lem ear j (n + 1))
  switched j before hit =
      let step : p * (rank j + 1) ≤ p * rank k = mul-le-mul_left p (omega arith) in
      handed j (omega arith) hit (n + 1) (let u = first_past in omega arith) (omega arith) (let u = H.soon in let v = recent in omega arith)
      (λ i u v. subst (Matches ear j) {x = n + 1} {y = i} (omega arith) hit)

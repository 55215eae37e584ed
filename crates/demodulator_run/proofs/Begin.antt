-- A candidate is taken while none is held. Assumes nothing.
use mathlib.Core.Path.{◌≡◌, refl, sym, subst}
use mathlib.Core.Logic.{inl, inr}
use mathlib.Core.List.{List}
use Prim.Native.Nat.{ℕ, ◌≤◌}
use native.Mathlib.Nat.{mul-le-mul_left}
use native.Mathlib.Omega.{arith}
use Rattle.machine.specs.Runs.{run}
use Rattle.protocol.specs.declared.Kind.{Kind}
use Rattle.demodulator_run.specs.Marks.{Mark, First}
use Rattle.demodulator_run.specs.Demands.{Ear, Matches, DueAt, taken_at_lem}
use Rattle.demodulator_run.proofs.KindOrder.{rank_most}
use Rattle.demodulator_run.proofs.Log.{more, new, taken_either, shown_either}
use Rattle.demodulator_run.proofs.Account.{account_more}
use Rattle.demodulator_run.proofs.Phase.{Idle, Holding}

module _ (ear : Ear) (p : ℕ) (l : List Mark) (n : ℕ) (I : Idle ear p l n) (k : Kind) (hit : Matches ear k n) where
  one : (j : ℕ) → n ≤ j → j ≤ n → Matches ear k j
  one j u v = subst (Matches ear k) {x = n} {y = j} (omega arith) hit

  begun_frames : (e : ℕ) → DueAt (more l (First n k)) e → e ≤ n
  begun_frames e f =
      let (x, i) = f in
      elim (shown_either l (First n k) x i) [ inl j ↦ I.past _ j | inr q ↦ absurd q ]

  pub begun : Holding ear p (more l (First n k)) n (taken_at_lem ear k n)
  begun = record {
    first = n;
    run = n;
    b = n;
    busy = record {
      account = account_more ear p l (First n k) I (omega arith) (λ (i : ℕ). i ≡ n) (λ (c : ℕ) (j : Kind). (c ≡ n) × (j ≡ k))
          (λ b j t. subst (λ (i : Kind). Matches ear i b) (sym t.1) (one b (omega (arith, t.0)) (omega (arith, t.0))))
          (λ d x q. q) (λ m q. absurd q) (λ m q. q) (λ b j q. absurd q) (λ b j q. q);
      frames = begun_frames;
      started = (k, new l (First n k));
    };
    standing = inl (new l (First n k));
    begun = omega arith;
    within = omega arith;
    reached = omega arith;
    soon = omega (arith, mul-le-mul_left p (rank_most k));
    aged = omega arith;
    matched = one;
    larger = λ j u v. absurd (omega arith);
    last = λ j i u t. elim (taken_either l (First n k) t) [
      | inl q ↦ elim q [ inl f ↦ let o : j ≤ n = I.past _ f in omega arith | inr a ↦ let o : j ≤ n = I.past _ a.1 in omega arith ]
      | inr q ↦ omega (arith, q.0)
    ];
    all = λ j u v. (k, one j u v);
    values = refl;
  }

-- The wait is over: the frame falls due, and nothing is open. Assumes nothing.
use mathlib.Core.Path.{sym, subst}
use mathlib.Core.Logic.{inl, inr}
use mathlib.Core.Bool.{Bool}
use mathlib.Core.List.{List}
use Prim.Native.Nat.{ℕ, ◌+◌, ◌*◌, ◌≤◌, ◌<◌}
use native.Mathlib.Omega.{arith}
use Rattle.search.specs.TakenBurst.{TakenBurst, shown_of}
use Rattle.demodulator_run.specs.Marks.{Mark, FellDue}
use Rattle.demodulator_run.specs.Demands.{Ear, DueAt}
use Rattle.demodulator_run.proofs.Log.{more, new, started_either, standing_either, shown_either}
use Rattle.demodulator_run.proofs.Account.{Episode, Closed, due_low, episode_more, handed_more, past_more, over, closed_more, genuine_more}
use Rattle.demodulator_run.proofs.Phase.{Idle, Awaiting}

module _ (ear : Ear) (p : ℕ) (l : List Mark) (n : ℕ) (age : ℕ) (mark : Bool) (held : TakenBurst) (W : Awaiting ear p l n (record { left = 1; age = age; replaced = mark }) held) where
  abbrev falling : Mark
  falling = FellDue (n + 1) (shown_of held age mark)

  ended : Episode ear p (more l falling) W.first W.b W.kind W.s (n + 1) (shown_of held age mark)
  ended = episode_more ear p l falling (let o = W.over in omega arith) (λ j i t. absurd t) W.episode

  closed : Closed ear p (more l falling) W.first W.b W.kind
  closed = record { s = W.s; d = n + 1; x = shown_of held age mark; fell = new l falling; episode = ended }

  -- frames are a whole wait apart, but for one sample
  earlier : (e : ℕ) → DueAt l e → e + 184 * p ≤ (n + 1) + 1
  earlier e f = let u = W.busy.frames e f in let v = due_low ear p W.episode in omega arith

  spaced : (d e : ℕ) → DueAt (more l falling) d → DueAt (more l falling) e → d < e → d + 184 * p ≤ e + 1
  spaced d e f g o =
      let (x, i) = f in
      let (z, j) = g in
      elim (shown_either l falling x i) [
        | inl q ↦ elim (shown_either l falling z j) [
          | inl r ↦ W.busy.account.spaced d e (x, q) (z, r) o
          | inr r ↦ let u = earlier d (x, q) in omega (arith, r.0)
        ]
        | inr q ↦ elim (shown_either l falling z j) [
          | inl r ↦ let u : e ≤ n = W.busy.account.past _ r in omega (arith, q.0)
          | inr r ↦ omega (arith, q.0, r.0)
        ]
      ]

  pub fallen : Idle ear p (more l falling) (n + 1)
  fallen = record {
    past = past_more ear p l falling W.busy.account (omega arith);
    genuine = genuine_more ear p l falling W.busy.account (omega arith) (λ b i t. absurd t);
    spaced = spaced;
    told = λ d x i. elim (shown_either l falling x i) [
      | inl q ↦ let (m, b, j, s, E) = W.busy.account.told d x q in (m, b, j, s, over ear p l falling W.busy.account (omega arith) q E)
      | inr q ↦ (
        W.first,
        W.b,
        W.kind,
        W.s,
        subst (λ (e : ℕ). Episode ear p (more l falling) W.first W.b W.kind W.s e x) (sym q.0)
            (subst (Episode ear p (more l falling) W.first W.b W.kind W.s (n + 1)) (sym q.1) ended),
      )
    ];
    firsts = λ m i. elim (started_either l falling i) [
      | inl q ↦ elim (W.busy.account.firsts m q) [
        | inl c ↦ inl (c.0, c.1, closed_more ear p l falling W.busy.account (omega arith) c.2)
        | inr e ↦ inl (W.b, W.kind, subst (λ (f : ℕ). Closed ear p (more l falling) f W.b W.kind) (sym e) closed)
      ]
      | inr q ↦ absurd q
    ];
    fates = λ b j i. elim (standing_either l falling i) [
      | inl q ↦ elim (W.busy.account.fates b j q) [
        | inl h ↦ inl (handed_more ear p l falling h)
        | inr r ↦ elim r [
          | inl c ↦ inr (inl (c.0, closed_more ear p l falling W.busy.account (omega arith) c.1))
          | inr e ↦ inr (inl (
            W.first,
            subst (λ (c : ℕ). Closed ear p (more l falling) W.first c j) (sym e.0) (subst (Closed ear p (more l falling) W.first W.b) (sym e.1) closed),
          ))
        ]
      ]
      | inr q ↦ absurd q
    ];
  }

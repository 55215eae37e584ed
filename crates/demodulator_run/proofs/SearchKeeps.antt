-- A search keeps the invariant. Assumes nothing.
use Rattle.std.specs.Prelude.{Option, None}
use mathlib.Core.Path.{◌≡◌, refl, sym, ap, ◌∙◌, subst, fun_ext}
use mathlib.Core.Logic.{◌⊎◌, inl, inr}
use mathlib.Core.Bool.{Bool, true, false, not}
use mathlib.Core.List.{List, [], ◌∷◌, ◌++◌, append-nil, append_assoc}
use Prim.Native.Nat.{ℕ, ◌+◌}
use native.Mathlib.Omega.{arith}
use lib.Dec.{T, not_T}
use lib.Ieee.{lt}
use Rattle.numbers.proofs.Tests.{holds, fails}
use Rattle.protocol.specs.declared.Kind.{Kind}
use Rattle.protocol.specs.declared.SyncBurst.TheVariants.{Frame}
use Rattle.decode.specs.Correlator.{matches}
use Rattle.search.specs.declared.Candidate.TheVariants.{Nothing}
use Rattle.search.specs.TakenBurst.{TakenBurst, held_as, older, at_age}
use Rattle.search.specs.Search.{rank}
use Rattle.demodulator_run.specs.Marks.{Mark, Anew, Failed}
use Rattle.demodulator_run.specs.Demands.{SymbolSize, Ear, at, Matches, Above, Alone, NotAgain, taken_at_lem}
use Rattle.demodulator_run.proofs.KindOrder.{Place, Before, Level, After, place, Placed, placed, same_self, same→≡, no→⊥, heard, NoneHeard, OneHeard}
use Rattle.demodulator_run.proofs.Pass.{Step, controlled, search_step, wait_from, pass_by, search_pass, pass_quiet, pass_first, pass_lost, pass_hit, struck}
use Rattle.demodulator_run.proofs.Log.{more}
use Rattle.demodulator_run.proofs.Phase.{Idle, Holding, Awaiting, Kept}
use Rattle.demodulator_run.proofs.Begin.{begun}
use Rattle.demodulator_run.proofs.Hold.{young, ages, renewed, switched}
use Rattle.demodulator_run.proofs.Fail.{fails_alone, fails_corner, fails_aged, fails_replaced}

-- a step's control, with its marks added to the log
abbrev pub KeptBy : Ear → ℕ → List Mark → Step → Type 0
KeptBy ear p l s = Kept ear p (l ++ s.marks) s.control

module _ (ear : Ear) (p : ℕ) (alone : Alone ear) (l : List Mark) where
  abbrev heard_now : (n : ℕ) → NoneHeard (ear n) (λ j k. alone j k n) ⊎ ((j : Kind) × OneHeard (ear n) (λ j k. alone j k n) j)
  heard_now n = heard (ear n) (λ j k. alone j k n)

  -- ---- while none is held
  pub search_idle : (n : ℕ) (t : Option ℕ) → Idle ear p l n → KeptBy ear p l (search_step p (ear n) (controlled Nothing None t false n))
  search_idle n t I =
      let (u, e) = search_pass p (ear n) (controlled Nothing None t false n) in
      let run : (Kind → Bool) → Step = λ m. pass_by p m (λ k. at ear k n) (controlled Nothing None u false n) in
      subst (KeptBy ear p l) (sym e) (elim (heard_now n) [
        | inl q ↦ subst (KeptBy ear p l) (sym (ap run (fun_ext q) ∙ pass_quiet p (λ k. at ear k n) u false n)) (subst (λ (m : List Mark). Idle ear p m n) (sym (append-nil l)) I)
        | inr q ↦ subst (KeptBy ear p l) (sym (ap run (fun_ext q.1) ∙ pass_first p (λ k. at ear k n) u false n q.0))
            (refl, begun ear p l n I q.0 (subst T (sym (q.1 q.0)) (same_self q.0)))
      ])

  -- ---- while one is held
  module _ (big : SymbolSize p) (again : NotAgain ear p) (n : ℕ) (held : TakenBurst) (H : Holding ear p l n held) where
    abbrev k : Kind
    k = held.kind

    module _ (t : Option ℕ) (j : Kind) (one : OneHeard (ear (n + 1)) (λ j k. alone j k (n + 1)) j) where
      hit : Matches ear j (n + 1)
      hit = subst T (sym (one j)) (same_self j)

      only : (i : Kind) → Matches ear i (n + 1) → i ≡ j
      only i m = sym (same→≡ j i (subst T (one i) m))

      -- the diff that is compared is that of the last take
      compared : (b : Bool) → lt held.diff (at ear j (n + 1)).diff ≡ b → lt (at ear k H.b).diff (at ear j (n + 1)).diff ≡ b
      compared b e = ap (λ (t : TakenBurst). lt t.diff (at ear j (n + 1)).diff) (sym H.values) ∙ e

      missed : (j ≡ k → ⊥) → T (not (matches (Frame k) (ear (n + 1))))
      missed other = not_T (matches (Frame k) (ear (n + 1))) (λ m. other (sym (only k m)))

      struck_kept : (o : Place) → Placed o j k → (b : Bool) → lt held.diff (at ear j (n + 1)).diff ≡ b
          → KeptBy ear p l (struck p (λ i. at ear i (n + 1)) t false (n + 1) held (held.age + 1) o b j)
      struck_kept Before r true e = (refl, fails_corner ear p big again l n held H (missed (λ q. omega (arith, r, ap rank q))) j hit only r (holds (compared true e)))
      struck_kept Before r false e = (refl, switched ear p again l n held H j r hit)
      struck_kept Level r true e = (
        refl,
        subst (λ (m : List Mark). Holding ear p m (n + 1) (at_age (held.age + 1) held)) (sym (append-nil l))
            (ages ear p again l n held H (subst (λ (i : Kind). Matches ear i (n + 1)) r hit) (subst (λ (i : Kind). Above ear i (n + 1) k H.b) r (holds (compared true e)))),
      )
      struck_kept Level r false e = (
        refl,
        subst (λ (i : Kind). Holding ear p (more l (Anew (n + 1) k i)) (n + 1) (taken_at_lem ear i (n + 1))) (sym r)
            (renewed ear p again l n held H (subst (λ (i : Kind). Matches ear i (n + 1)) r hit)),
      )
      struck_kept After r true e = (refl, fails_aged ear p big again l n held H (missed (λ q. omega (arith, r, ap rank q))) j hit only r (holds (compared true e)))
      struck_kept After r false e = (
        refl,
        subst (λ (m : List Mark). Awaiting ear p m (n + 1) (wait_from p held.age true) (taken_at_lem ear j (n + 1))) (append_assoc l (Failed (n + 1) k held.taken_at ∷ []) (Anew (n + 1) k j ∷ []))
            (fails_replaced ear p big again l n held H (missed (λ q. omega (arith, r, ap rank q))) j hit only r (no→⊥ (compared false e))),
      )

    -- an age of p at most has room for one more
    grows : older held.age ≡ held.age + 1
    grows = let few = young ear p again l n held H in omega arith

    pub search_held : (t : Option ℕ) → KeptBy ear p l (search_step p (ear (n + 1)) (controlled (held_as held) None t false (n + 1)))
    search_held t =
        let (u, e) = search_pass p (ear (n + 1)) (controlled (held_as held) None t false (n + 1)) in
        let run : (Kind → Bool) → Step = λ m. pass_by p m (λ i. at ear i (n + 1)) (controlled (held_as held) None u false (n + 1)) in
        subst (KeptBy ear p l) (sym e) (elim (heard_now (n + 1)) [
          | inl q ↦ subst (KeptBy ear p l) (sym (ap run (fun_ext q) ∙ pass_lost p (λ i. at ear i (n + 1)) u false (n + 1) held))
              (refl, fails_alone ear p big again l n held H (fails (q k)) (λ i m. no→⊥ (q i) m))
          | inr q ↦ subst (KeptBy ear p l) (sym (ap run (fun_ext q.1) ∙ pass_hit p (λ i. at ear i (n + 1)) u false (n + 1) held q.0 _ refl))
              (rw grows (struck_kept u q.0 q.1 (place q.0 k) (placed q.0 k) _ refl))
        ])

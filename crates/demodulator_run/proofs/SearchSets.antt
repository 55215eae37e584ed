-- What a search does where a candidate fails, and where one is taken: the wait that it sets and how it is marked, and the candidate that is then held. Assumes nothing.
use Rattle.std.specs.Prelude.{Option, Some, None}
use Rattle.search.specs.declared.Waiting.{Waiting}
use mathlib.Core.Path.{◌≡◌, refl, sym, ap, ◌∙◌, subst, fun_ext}
use mathlib.Core.Logic.{◌⊎◌, inl, inr}
use mathlib.Core.Bool.{Bool, true, false, not, true≢false}
use Prim.Native.Nat.{ℕ, ◌<◌}
use native.Mathlib.Omega.{arith}
use lib.Dec.{T}
use lib.Ieee.{Float, lt}
use Rattle.protocol.specs.declared.Kind.{Kind}
use Rattle.protocol.specs.declared.SyncBurst.TheVariants.{Frame}
use Rattle.decode.specs.Correlator.{correlation, matches}
use Rattle.search.specs.declared.Candidate.TheVariants.{Nothing}
use Rattle.search.specs.TakenBurst.{TakenBurst, held_as, taken, older}
use Rattle.search.specs.Search.{rank, searched}
use Rattle.demodulator_run.proofs.KindOrder.{Place, Before, Level, After, place, Placed, placed, same_self, same→≡, no→⊥, T-clash, heard, OneHeard}
use Rattle.demodulator_run.proofs.Pass.{Step, controlled, wait_from, pass_by, search_pass, pass_first, pass_lost, pass_hit, struck}

module _ (p : ℕ) (v : ℕ → Float) (alone : (j k : Kind) → T (matches (Frame j) v) → T (matches (Frame k) v) → j ≡ k) where
  one_hit : (j : Kind) → OneHeard v alone j → T (matches (Frame j) v)
  one_hit j one = subst T (sym (one j)) (same_self j)

  one_only : (j : Kind) → OneHeard v alone j → (i : Kind) → T (matches (Frame i) v) → i ≡ j
  one_only j one i m = sym (same→≡ j i (subst T (one i) m))

  module _ (t : Option ℕ) (o : Bool) (n : ℕ) where
    -- ---- a candidate is taken: what is then held
    abbrev Holds : Kind → Step → Type 0
    Holds k s = s.control.candidate ≡ held_as (taken k (correlation (Frame k) v) n)

    pub takes_first : (k : Kind) → T (matches (Frame k) v) → (searched p v (controlled Nothing None t o n)).candidate ≡ held_as (taken k (correlation (Frame k) v) n)
    takes_first k m =
        let (u, e) = search_pass p v (controlled Nothing None t o n) in
        let run : (Kind → Bool) → Step = λ m. pass_by p m (λ i. correlation (Frame i) v) (controlled Nothing None u o n) in
        subst (Holds k) (sym e) (elim (heard v alone) [
          | inl q ↦ absurd (no→⊥ (q k) m)
          | inr q ↦ subst (Holds k) (sym (ap run (fun_ext q.1) ∙ pass_first p (λ i. correlation (Frame i) v) u o n q.0))
              (ap (λ (i : Kind). held_as (taken i (correlation (Frame i) v) n)) (sym (one_only q.0 q.1 k m)))
        ])

    module _ (held : TakenBurst) where
      struck_takes : (u : Option ℕ) (j k : Kind) → k ≡ j → (x : Place) → Holds k (struck p (λ i. correlation (Frame i) v) u o n held (older held.age) x false j)
      struck_takes u j k e Before = ap (λ (i : Kind). held_as (taken i (correlation (Frame i) v) n)) (sym e)
      struck_takes u j k e Level = ap (λ (i : Kind). held_as (taken i (correlation (Frame i) v) n)) (sym e)
      struck_takes u j k e After = ap (λ (i : Kind). held_as (taken i (correlation (Frame i) v) n)) (sym e)

      pub takes_anew : (k : Kind) → T (matches (Frame k) v) → lt held.diff (correlation (Frame k) v).diff ≡ false
          → (searched p v (controlled (held_as held) None t o n)).candidate ≡ held_as (taken k (correlation (Frame k) v) n)
      takes_anew k m below =
          let (u, e) = search_pass p v (controlled (held_as held) None t o n) in
          let run : (Kind → Bool) → Step = λ m. pass_by p m (λ i. correlation (Frame i) v) (controlled (held_as held) None u o n) in
          subst (Holds k) (sym e) (elim (heard v alone) [
            | inl q ↦ absurd (no→⊥ (q k) m)
            | inr q ↦
                let same : k ≡ q.0 = one_only q.0 q.1 k m in
                let below' : lt held.diff (correlation (Frame q.0) v).diff ≡ false = subst (λ (i : Kind). lt held.diff (correlation (Frame i) v).diff ≡ false) same below in
                subst (Holds k) (sym (ap run (fun_ext q.1) ∙ pass_hit p (λ i. correlation (Frame i) v) u o n held q.0 false below')) (struck_takes u q.0 k same (place q.0 held.kind))
          ])

      -- ---- a candidate fails: the wait that is set, and why
      -- an earlier-listed kind's match added to its age first
      abbrev pub ByCorner : Option Waiting → Type 0
      ByCorner w = (w ≡ Some (wait_from p (older held.age) false))
          × ((j : Kind) × (rank j < rank held.kind) × T (matches (Frame j) v) × (lt held.diff (correlation (Frame j) v).diff ≡ true))

      -- a later-listed kind replaced it
      abbrev pub ByReplacement : Option Waiting → Type 0
      ByReplacement w = (w ≡ Some (wait_from p held.age true))
          × ((j : Kind) × (rank held.kind < rank j) × T (matches (Frame j) v) × (lt held.diff (correlation (Frame j) v).diff ≡ false))

      -- neither
      abbrev pub ByFailure : Option Waiting → Type 0
      ByFailure w = (w ≡ Some (wait_from p held.age false)) × ((j : Kind) → rank j < rank held.kind → T (matches (Frame j) v) → ⊥)
          × ((j : Kind) → rank held.kind < rank j → T (matches (Frame j) v) → lt held.diff (correlation (Frame j) v).diff ≡ true)

      abbrev pub Sets : Option Waiting → Type 0
      Sets w = ByCorner w ⊎ (ByReplacement w ⊎ ByFailure w)

      module _ (lost : T (not (matches (Frame held.kind) v))) (stays : (j : Kind) → rank j < rank held.kind → T (matches (Frame j) v) → lt held.diff (correlation (Frame j) v).diff ≡ true) where
        struck_sets : (u : Option ℕ) (j : Kind) → T (matches (Frame j) v) → ((i : Kind) → T (matches (Frame i) v) → i ≡ j) → (x : Place) → Placed x j held.kind
            → (b : Bool) → lt held.diff (correlation (Frame j) v).diff ≡ b → Sets (struck p (λ i. correlation (Frame i) v) u o n held (older held.age) x b j).control.wait
        struck_sets u j m only Before r true e = inl (refl, (j, r, m, e))
        struck_sets u j m only Before r false e = absurd (true≢false (sym (stays j r m) ∙ e))
        struck_sets u j m only Level r b e = absurd (T-clash (matches (Frame held.kind) v) (subst (λ (i : Kind). T (matches (Frame i) v)) r m) lost)
        struck_sets u j m only After r true e = inr (inr (
          refl,
          λ i s h. omega (arith, r, s, ap rank (only i h)),
          λ i s h. ap (λ (g : Kind). lt held.diff (correlation (Frame g) v).diff) (only i h) ∙ e,
        ))
        struck_sets u j m only After r false e = inr (inl (refl, (j, r, m, e)))

        pub sets_wait : Sets (searched p v (controlled (held_as held) None t o n)).wait
        sets_wait =
            let (u, e) = search_pass p v (controlled (held_as held) None t o n) in
            let run : (Kind → Bool) → Step = λ m. pass_by p m (λ i. correlation (Frame i) v) (controlled (held_as held) None u o n) in
            let Good : Step → Type 0 = λ s. Sets s.control.wait in
            subst Good (sym e) (elim (heard v alone) [
              | inl q ↦ subst Good (sym (ap run (fun_ext q) ∙ pass_lost p (λ i. correlation (Frame i) v) u o n held))
                  (inr (inr (refl, (λ i s h. no→⊥ (q i) h), λ i s h. absurd (no→⊥ (q i) h))))
              | inr q ↦ subst Good (sym (ap run (fun_ext q.1) ∙ pass_hit p (λ i. correlation (Frame i) v) u o n held q.0 _ refl))
                  (struck_sets u q.0 (one_hit q.0 q.1) (one_only q.0 q.1) (place q.0 held.kind) (placed q.0 held.kind) _ refl)
            ])

-- A search marks exactly what the rules say. Assumes nothing.
use Rattle.std.specs.Prelude.{Option, None}
use mathlib.Core.Path.{◌≡◌, refl, sym, ap, ◌∙◌, subst, fun_ext}
use mathlib.Core.Logic.{inl, inr}
use mathlib.Core.Bool.{Bool, true, false, true≢false}
use mathlib.Core.List.Memᴰ
use mathlib.Core.List.{List, [], ◌∷◌}
use Prim.Native.Nat.{ℕ, ◌<◌}
use native.Mathlib.Omega.{arith}
use lib.Dec.{T, not_T}
use lib.Ieee.{Float, lt}
use Rattle.numbers.proofs.Tests.{fails}
use Rattle.protocol.specs.declared.Kind.{Kind}
use Rattle.protocol.specs.declared.SyncBurst.TheVariants.{Frame}
use Rattle.decode.specs.Correlator.{matches}
use Rattle.search.specs.declared.Candidate.{Candidate}
use Rattle.search.specs.declared.Candidate.TheVariants.{Nothing}
use Rattle.search.specs.TakenBurst.{TakenBurst, held_as, older}
use Rattle.search.specs.Search.{rank}
use Rattle.search.proofs.HeldOrNot.{HeldOrNot, not_held, is_held, same_held}
use Rattle.demodulator_run.specs.Marks.{Mark, First, Anew, Failed, FellDue, searched_marks}
use Rattle.demodulator_run.specs.Demands.{Ear, at, Matches, Unmatched, Alone, In}
use Rattle.demodulator_run.specs.Exact.{BySearch}
use Rattle.demodulator_run.proofs.KindOrder.{Place, Before, Level, After, place, Placed, placed, same_self, same→≡, no→⊥, T-clash, heard, OneHeard}
use Rattle.demodulator_run.proofs.Pass.{Step, controlled, pass_by, search_pass, pass_quiet, pass_first, pass_lost, pass_hit, struck}

-- marks that are just those of which something holds
abbrev pub Exactly : (Mark → Type 0) → List Mark → Type 0
Exactly P m = (y : Mark) → (In y m → P y) × (P y → In y m)

module _ (ear : Ear) (p : ℕ) (alone : Alone ear) (n : ℕ) where
  clash : (k : Kind) → Matches ear k n → Unmatched ear k n → ⊥
  clash k = T-clash (matches (Frame k) (ear n))

  -- ---- none is held
  module _ (t : Option ℕ) (o : Bool) where
    abbrev Says : Mark → Type 0
    Says = BySearch ear (controlled Nothing None t o n)

    none_exact : ((k : Kind) → Matches ear k n → ⊥) → Exactly Says []
    none_exact none y = (λ i. absurd (Memᴰ.not-nil i), back y)
      where
        back : (y : Mark) → Says y → In y []
        back (First m k) s = absurd (none k (subst (Matches ear k) s.0 s.2))
        back (Anew m j k) s = absurd (none k (subst (Matches ear k) s.0 s.1))
        back (Failed m k b) s = let e = s.2.1.0 in let z : ◌≡◌ {A = ℕ} 0 1 = cc in absurd (omega arith)
        back (FellDue m x) s = absurd s

    first_exact : (j : Kind) → Matches ear j n → Exactly Says (First n j ∷ [])
    first_exact j hit y = (λ i. subst Says (sym (Memᴰ.eq_of_singleton i)) (refl, refl, hit), back y)
      where
        back : (y : Mark) → Says y → In y (First n j ∷ [])
        back (First m k) s =
            let a = s.0 in
            let e : k ≡ j = alone k j n (subst (Matches ear k) s.0 s.2) hit in
            let f : First m k ≡ First n j = cc in
            Memᴰ.head f
        back (Anew m i k) s = let e = s.2.1.0 in let z : ◌≡◌ {A = ℕ} 0 1 = cc in absurd (omega arith)
        back (Failed m k b) s = let e = s.2.1.0 in let z : ◌≡◌ {A = ℕ} 0 1 = cc in absurd (omega arith)
        back (FellDue m x) s = absurd s

  -- ---- one is held
  module _ (t : Option ℕ) (o : Bool) (held : TakenBurst) where
    abbrev k : Kind
    k = held.kind

    abbrev Tells : Mark → Type 0
    Tells = BySearch ear (controlled (held_as held) None t o n)

    -- no earlier-listed kind replaces it
    abbrev Stays : Type 0
    Stays = (j : Kind) → rank j < rank k → Matches ear j n → lt held.diff (at ear j n).diff ≡ true

    -- where it was taken
    abbrev since : ℕ
    since = held.taken_at

    tells_failed : Unmatched ear k n → Stays → (y : Mark) → y ≡ Failed n k since → Tells y
    tells_failed lost stays y e = subst Tells (sym e) (refl, lost, (held, (refl, refl), stays, refl))

    tells_anew : (j : Kind) → Matches ear j n → lt held.diff (at ear j n).diff ≡ false → (y : Mark) → y ≡ Anew n k j → Tells y
    tells_anew j hit below y e = subst Tells (sym e) (refl, hit, (held, (refl, refl), below))

    exactly : (m : List Mark) → ((y : Mark) → In y m → Tells y) → ((j : Kind) → Matches ear j n → lt held.diff (at ear j n).diff ≡ false → In (Anew n k j) m) → (Unmatched ear k n → Stays → In (Failed n k since) m)
        → Exactly Tells m
    exactly m forth anew failed y = (forth y, back y)
      where
        back : (y : Mark) → Tells y → In y m
        back (First i j) s = let e = s.1 in let z : ◌≡◌ {A = ℕ} 0 1 = cc in absurd (omega arith)
        back (Anew i h j) s =
            let d : Float = s.2.0.diff in
            let same : held ≡ s.2.0 = same_held held s.2.0 s.2.1.0 in
            let kinds : k ≡ h = ap (λ (t : TakenBurst). t.kind) same ∙ s.2.1.1 in
            let diffs : d ≡ held.diff = sym (ap (λ (t : TakenBurst). t.diff) same) in
            let q : lt held.diff (at ear j n).diff ≡ false = subst (λ (x : Float). lt x (at ear j n).diff ≡ false) diffs (subst (λ (x : ℕ). lt d (at ear j x).diff ≡ false) s.0 s.2.2) in
            subst (λ (x : ℕ). In (Anew x h j) m) (sym s.0) (subst (λ (x : Kind). In (Anew n x j) m) kinds (anew j (subst (Matches ear j) s.0 s.1) q))
        back (Failed i h b) s =
            let d : Float = s.2.0.diff in
            let same : held ≡ s.2.0 = same_held held s.2.0 s.2.1.0 in
            let kinds : k ≡ h = ap (λ (t : TakenBurst). t.kind) same ∙ s.2.1.1 in
            let diffs : d ≡ held.diff = sym (ap (λ (t : TakenBurst). t.diff) same) in
            let lost : Unmatched ear k n = subst (λ (x : Kind). Unmatched ear x n) (sym kinds) (subst (Unmatched ear h) s.0 s.1) in
            let stays : Stays = λ j r q.
            subst (λ (x : Float). lt x (at ear j n).diff ≡ true) diffs
            (subst (λ (x : ℕ). lt d (at ear j x).diff ≡ true) s.0 (s.2.2 j (subst (λ (x : Kind). rank j < rank x) kinds r) (subst (Matches ear j) (sym s.0) q))) in
            let taken : held.taken_at ≡ b = ap (λ (t : TakenBurst). t.taken_at) same ∙ s.2.3 in
            subst (λ (x : ℕ). In (Failed x h b) m) (sym s.0) (subst (λ (x : Kind). In (Failed n x b) m) kinds (subst (λ (x : ℕ). In (Failed n k x) m) taken (failed lost stays)))
        back (FellDue i x) s = absurd s

    lost_exact : ((j : Kind) → Matches ear j n → ⊥) → Unmatched ear k n → Exactly Tells (Failed n k since ∷ [])
    lost_exact none lost =
        exactly (Failed n k since ∷ []) (λ y i. tells_failed lost (λ j r q. absurd (none j q)) y (Memᴰ.eq_of_singleton i)) (λ j q b. absurd (none j q)) (λ l s. Memᴰ.head refl)

    module _ (j : Kind) (hit : Matches ear j n) (only : (i : Kind) → Matches ear i n → i ≡ j) (missed : (j ≡ k → ⊥) → Unmatched ear k n) where
      -- the diff of whatever matches is j's
      moved : (b : Bool) → lt held.diff (at ear j n).diff ≡ b → (i : Kind) → Matches ear i n → lt held.diff (at ear i n).diff ≡ b
      moved b e i q = ap (λ (x : Kind). lt held.diff (at ear x n).diff) (only i q) ∙ e

      above_below : lt held.diff (at ear j n).diff ≡ true → (i : Kind) → Matches ear i n → lt held.diff (at ear i n).diff ≡ false → ⊥
      above_below e i q f = let g = moved true e i q in let z : ◌≡◌ {A = Bool} true false = cc in true≢false z

      taken_in : (m : List Mark) → In (Anew n k j) m → (i : Kind) → Matches ear i n → lt held.diff (at ear i n).diff ≡ false → In (Anew n k i) m
      taken_in m h i q b = subst (λ (x : Kind). In (Anew n k x) m) (sym (only i q)) h

      struck_exact : (u : Option ℕ) (o' : Place) → Placed o' j k → (b : Bool) → lt held.diff (at ear j n).diff ≡ b → Exactly Tells (struck p (λ i. at ear i n) u o n held (older held.age) o' b j).marks
      struck_exact u Before r true e =
          exactly (Failed n k since ∷ []) (λ y i. tells_failed (missed (λ q. omega (arith, r, ap rank q))) (λ i r' q. moved true e i q) y (Memᴰ.eq_of_singleton i))
          (λ i q f. absurd (above_below e i q f)) (λ l s. Memᴰ.head refl)
      struck_exact u Before r false e =
          exactly (Anew n k j ∷ []) (λ y i. tells_anew j hit e y (Memᴰ.eq_of_singleton i)) (taken_in (Anew n k j ∷ []) (Memᴰ.head refl)) (λ l s.
          let g = s j r hit in let z : ◌≡◌ {A = Bool} true false = cc in absurd (true≢false z))
      struck_exact u Level r true e = exactly [] (λ y i. absurd (Memᴰ.not-nil i)) (λ i q f. absurd (above_below e i q f)) (λ l s. absurd (clash k (subst (λ (x : Kind). Matches ear x n) r hit) l))
      struck_exact u Level r false e =
          exactly (Anew n k j ∷ []) (λ y i. tells_anew j hit e y (Memᴰ.eq_of_singleton i)) (taken_in (Anew n k j ∷ []) (Memᴰ.head refl)) (λ l s. absurd (clash k (subst (λ (x : Kind). Matches ear x n) r hit) l))
      struck_exact u After r true e =
          exactly (Failed n k since ∷ []) (λ y i. tells_failed (missed (λ q. omega (arith, r, ap rank q))) (λ i r' q. moved true e i q) y (Memᴰ.eq_of_singleton i))
          (λ i q f. absurd (above_below e i q f)) (λ l s. Memᴰ.head refl)
      struck_exact u After r false e =
          exactly (Failed n k since ∷ Anew n k j ∷ []) (λ y i. elim (Memᴰ.cases_cons i) [
            | inl q ↦ tells_failed (missed (λ q. omega (arith, r, ap rank q))) (λ i r' q. absurd (omega (arith, r, r', ap rank (only i q)))) y q
            | inr q ↦ tells_anew j hit e y (Memᴰ.eq_of_singleton q)
          ]) (taken_in (Failed n k since ∷ Anew n k j ∷ []) (Memᴰ.tail (Memᴰ.head refl))) (λ l s. Memᴰ.head refl)

  -- ---- the search
  one_hit : (j : Kind) → OneHeard (ear n) (λ i j. alone i j n) j → Matches ear j n
  one_hit j one = subst T (sym (one j)) (same_self j)

  one_only : (j : Kind) → OneHeard (ear n) (λ i j. alone i j n) j → (i : Kind) → Matches ear i n → i ≡ j
  one_only j one i m = sym (same→≡ j i (subst T (one i) m))

  one_missed : (j : Kind) → OneHeard (ear n) (λ i j. alone i j n) j → (k : Kind) → (j ≡ k → ⊥) → Unmatched ear k n
  one_missed j one k other = not_T (matches (Frame k) (ear n)) (λ m. other (sym (one_only j one k m)))

  pub search_exact : {candidate : Candidate} → HeldOrNot candidate → (t : Option ℕ) (o : Bool) → Exactly (BySearch ear (controlled candidate None t o n)) (searched_marks p (ear n) (controlled candidate None t o n))
  search_exact not_held t o =
      let (u, e) = search_pass p (ear n) (controlled Nothing None t o n) in
      let run : (Kind → Bool) → Step = λ m. pass_by p m (λ k. at ear k n) (controlled Nothing None u o n) in
      subst (λ (s : Step). Exactly (Says t o) s.marks) (sym e) (elim (heard (ear n) (λ i j. alone i j n)) [
        | inl q ↦ subst (λ (s : Step). Exactly (Says t o) s.marks) (sym (ap run (fun_ext q) ∙ pass_quiet p (λ k. at ear k n) u o n)) (none_exact t o (λ k. no→⊥ (q k)))
        | inr q ↦ subst (λ (s : Step). Exactly (Says t o) s.marks) (sym (ap run (fun_ext q.1) ∙ pass_first p (λ k. at ear k n) u o n q.0)) (first_exact t o q.0 (one_hit q.0 q.1))
      ])
  search_exact (is_held held) t o =
      let (u, e) = search_pass p (ear n) (controlled (held_as held) None t o n) in
      let run : (Kind → Bool) → Step = λ m. pass_by p m (λ i. at ear i n) (controlled (held_as held) None u o n) in
      subst (λ (s : Step). Exactly (Tells t o held) s.marks) (sym e) (elim (heard (ear n) (λ i j. alone i j n)) [
        | inl q ↦ subst (λ (s : Step). Exactly (Tells t o held) s.marks) (sym (ap run (fun_ext q) ∙ pass_lost p (λ i. at ear i n) u o n held))
            (lost_exact t o held (λ j. no→⊥ (q j)) (fails (q held.kind)))
        | inr q ↦ subst (λ (s : Step). Exactly (Tells t o held) s.marks) (sym (ap run (fun_ext q.1) ∙ pass_hit p (λ i. at ear i n) u o n held q.0 _ refl))
            (struck_exact t o held q.0 (one_hit q.0 q.1) (one_only q.0 q.1) (one_missed q.0 q.1 held.kind) u (place q.0 held.kind) (placed q.0 held.kind) _ refl)
      ])

-- Each answer of the checker is given exactly where its sentence holds. Assumes nothing.
use mathlib.Core.Path.{◌≡◌, refl, sym, ap, subst, ◌∙◌}
use mathlib.Core.Bool.{Bool, true, false, cond}
use mathlib.Core.List.{List, [], ◌∷◌, ◌++◌, append-nil}
use Prim.Native.Nat.{ℕ, suc, ◌+◌, ◌≤◌, ◌<◌}
use native.Mathlib.Omega.{arith}
use borrow.Author.Tests.{ltb-true, ltb-false}
use lib.Dec.{T, ltb}
use lib.IntN.{ℤ}
use lib.ListN.{length}
use Rattle.protocol.specs.Refusals.{bare, placed, at_line}
use Rattle.sending.specs.Text.{Bad, none, in_line, bad_line_lem}
use Rattle.supplier.specs.Check.{Verdict, refused, yes, differs, short, long, ours, same_sample, beside, checked}
use Rattle.supplier.specs.Meanings.{Means, Fine, Checks}
use Rattle.supplier.proofs.SameSample.{same_true, same_eq, same_not}
use Rattle.supplier.proofs.CheckLaws.{checked_8, checked_17, checked_beside}

-- ---- a stretch beside ours: what is said is true
one_more : (n : ℕ) (y x : ℤ) (ys xs : List ℤ) → y ≡ x → (v : Verdict) → Means (suc n) ys xs v → Means n (y ∷ ys) (x ∷ xs) v
one_more n y x ys xs e (refused why) m = m
one_more n y x ys xs e yes m = rw (e, m)
one_more n y x ys xs e (differs k) m = record {
  before = y ∷ m.before;
  own = m.own;
  other = m.other;
  own_later = m.own_later;
  other_later = m.other_later;
  ours = ap (λ (l : List ℤ). y ∷ l) m.ours;
  theirs = rw (e, m.theirs);
  differs = m.differs;
  number = let longer : suc n + length m.before ≡ n + suc (length m.before) = omega arith in m.number ∙ longer;
}
one_more n y x ys xs e short m = record { next = m.next; later = m.later; parts = rw (e, m.parts) }
one_more n y x ys xs e long m = record { next = m.next; later = m.later; parts = rw (e, m.parts) }

not_same : (y x : ℤ) → same_sample y x ≡ false → y ≡ x → ⊥
not_same y x f e = subst T (sym (same_eq y x e) ∙ f) tt

pub beside_means : (ys xs : List ℤ) (n : ℕ) → Means n ys xs (beside n ys xs)
unfolding beside
beside_means [] [] n = refl
beside_means [] (x ∷ xs) n = record { next = x; later = xs; parts = refl }
beside_means (y ∷ ys) [] n = record { next = y; later = ys; parts = refl }
beside_means (y ∷ ys) (x ∷ xs) n = by_test (same_sample y x) refl (beside_means ys xs (suc n))
  where
    by_test : (t : Bool) → same_sample y x ≡ t → Means (suc n) ys xs (beside (suc n) ys xs) → Means n (y ∷ ys) (x ∷ xs) (cond t (beside (suc n) ys xs) (differs n))
    by_test true e on = one_more n y x ys xs (same_true y x e) (beside (suc n) ys xs) on
    by_test false e on =
        let here : n ≡ n + 0 = omega arith in
        record { before = []; own = y; other = x; own_later = ys; other_later = xs; ours = refl; theirs = refl; differs = not_same y x e; number = here }

-- ---- and what is true is said
module _ (n : ℕ) (x : ℤ) (ys xs : List ℤ) where
  same_step : beside n (x ∷ ys) (x ∷ xs) ≡ beside (suc n) ys xs
  unfolding beside
  same_step = rw (same_eq x x refl)

same_beside : (front : List ℤ) (n : ℕ) (ys xs : List ℤ) → beside n (front ++ ys) (front ++ xs) ≡ beside (n + length front) ys xs
same_beside [] n ys xs = let same : n ≡ n + 0 = omega arith in ap (λ (k : ℕ). beside k ys xs) same
same_beside (x ∷ front) n ys xs =
    let longer : suc n + length front ≡ n + suc (length front) = omega arith in
    same_step n x (front ++ ys) (front ++ xs) ∙ same_beside front (suc n) ys xs ∙ ap (λ (k : ℕ). beside k ys xs) longer

module _ (n : ℕ) where
  whole : (ys : List ℤ) → beside n ys ys ≡ yes
  unfolding beside
  whole ys = rw (append-nil ys) at (same_beside ys n [] [])

  begun : (front : List ℤ) (y : ℤ) (ys : List ℤ) → beside n (front ++ (y ∷ ys)) front ≡ short
  unfolding beside
  begun front y ys = rw (append-nil front) at (same_beside front n (y ∷ ys) [])

  passed_end : (front : List ℤ) (x : ℤ) (xs : List ℤ) → beside n front (front ++ (x ∷ xs)) ≡ long
  unfolding beside
  passed_end front x xs = rw (append-nil front) at (same_beside front n [] (x ∷ xs))

  other_here : (front : List ℤ) (y x : ℤ) (ys xs : List ℤ) → (y ≡ x → ⊥) → beside n (front ++ (y ∷ ys)) (front ++ (x ∷ xs)) ≡ differs (n + length front)
  unfolding beside
  other_here front y x ys xs h = same_beside front n (y ∷ ys) (x ∷ xs) ∙ rw (same_not y x h)

pub means_beside : (n : ℕ) (ys xs : List ℤ) (v : Verdict) → Means n ys xs v → beside n ys xs ≡ v
means_beside n ys xs (refused why) m = absurd m
means_beside n ys xs yes m = rw m (whole n ys)
means_beside n ys xs (differs k) m = rw (m.ours, m.theirs, m.number) (other_here n m.before m.own m.other m.own_later m.other_later m.differs)
means_beside n ys xs short m = rw m.parts (begun n xs m.next m.later)
means_beside n ys xs long m = rw m.parts (passed_end n ys m.next m.later)

-- ---- the checker
module _ (padding : ℕ) (text : List ℕ) (samples : List ℤ) where
  with_fine : Fine padding text → (v : Verdict) → Means 1 (ours padding text) samples v → Checks padding text samples v
  with_fine f (refused why) m = absurd m
  with_fine f yes m = (f, m)
  with_fine f (differs k) m = (f, m)
  with_fine f short m = (f, m)
  with_fine f long m = (f, m)

  answer_holds : Checks padding text samples (checked padding text samples)
  answer_holds = by_test (ltb 122400 padding) refl (bad_line_lem text) refl
    where
      by_test : (t : Bool) → ltb 122400 padding ≡ t → (b : Bad) → bad_line_lem text ≡ b → Checks padding text samples (checked padding text samples)
      by_test true p b q =
          let large = ltb-true 122400 padding p in
          subst (Checks padding text samples) (sym (checked_8 padding text samples large)) (refl, large)
      by_test false p none q =
          let few = ltb-false 122400 padding p in
          let means = beside_means (ours padding text) samples 1 in
          subst (Checks padding text samples) (sym (checked_beside padding text samples few q))
          (with_fine (few, q) (beside 1 (ours padding text) samples) means)
      by_test false p (in_line k) q =
          let few = ltb-false 122400 padding p in
          subst (Checks padding text samples) (sym (checked_17 padding text samples few k q)) (refl, (few, q))

  by_means : (v : Verdict) → Fine padding text → Means 1 (ours padding text) samples v → checked padding text samples ≡ v
  by_means v f m = checked_beside padding text samples f.0 f.1 ∙ means_beside 1 (ours padding text) samples v m

  answer_where : (v : Verdict) → Checks padding text samples v → checked padding text samples ≡ v
  answer_where (refused (bare n)) c = checked_8 padding text samples c.1 ∙ ap (λ (k : ℕ). refused (bare k)) (sym c.0)
  answer_where (refused (placed n k)) c = absurd c
  answer_where (refused (at_line n line)) c = checked_17 padding text samples c.1.0 line c.1.1 ∙ ap (λ (k : ℕ). refused (at_line k line)) (sym c.0)
  answer_where yes c = by_means yes c.0 c.1
  answer_where (differs k) c = by_means (differs k) c.0 c.1
  answer_where short c = by_means short c.0 c.1
  answer_where long c = by_means long c.0 c.1

  -- every answer, both ways
  pub check_exactly : (v : Verdict)
      → (checked padding text samples ≡ v → Checks padding text samples v) × (Checks padding text samples v → checked padding text samples ≡ v)
  check_exactly v = (λ e. subst (Checks padding text samples) e answer_holds, answer_where v)

  -- "says yes exactly if the samples are the sender's own from a fresh start"
  pub yes_only : checked padding text samples ≡ yes → Fine padding text × (samples ≡ ours padding text)
  yes_only = (check_exactly yes).0

  pub yes_where : Fine padding text → samples ≡ ours padding text → checked padding text samples ≡ yes
  yes_where f e = (check_exactly yes).1 (f, e)

  -- "8, a padding count above 122,400"
  pub eight_exactly : (checked padding text samples ≡ refused (bare 8) → 122400 < padding)
      × (122400 < padding → checked padding text samples ≡ refused (bare 8))
  eight_exactly = (λ e. ((check_exactly (refused (bare 8))).0 e).1, checked_8 padding text samples)

  -- "17, a bad frame line, with its number, before any sample is looked at"
  pub line_exactly : (n : ℕ) → (checked padding text samples ≡ refused (at_line 17 n) → (padding ≤ 122400) × (bad_line_lem text ≡ in_line n))
      × ((padding ≤ 122400) × (bad_line_lem text ≡ in_line n) → checked padding text samples ≡ refused (at_line 17 n))
  line_exactly n = (λ e. ((check_exactly (refused (at_line 17 n))).0 e).1, λ c. checked_17 padding text samples c.0 n c.1)

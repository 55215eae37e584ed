-- A part of ours beside the stretch: sample by sample, and before the rest. Assumes nothing.
use mathlib.Core.Path.{◌≡◌, refl, sym, ap, subst, ◌∙◌}
use mathlib.Core.Bool.{Bool, true, false, cond}
use mathlib.Core.List.{List, [], ◌∷◌, ◌++◌}
use Prim.Native.Nat.{ℕ, suc, ◌+◌, ◌≤◌, ◌<◌, zero-le}
use native.Mathlib.Omega.{arith}
use lib.Dec.{T}
use lib.IntN.{ℤ, pos}
use lib.ListN.{length, get_or, drop, drop_of_length-le}
use lib.Seq.{drop-cons}
use Rattle.supplier.specs.Check.{Verdict, refused, yes, differs, short, long, same_sample, beside}
use Rattle.supplier.specs.Parts.{front, is_yes}
use Rattle.supplier.proofs.SameSample.{same_eq, same_not}

-- ---- a turn of a loop that is at place i of ours and at place k of the stretch
module _ (n : ℕ) (ys xs : List ℤ) (i k : ℕ) where
  pub front_done : length ys ≤ i → front n (drop i ys) (drop k xs) ≡ yes
  unfolding front
  front_done all = rw (drop_of_length-le ys {i = i} all)

  pub front_short : i < length ys → length xs ≤ k → front n (drop i ys) (drop k xs) ≡ short
  unfolding front
  front_short l all = rw (drop-cons ys i (pos 0) l, drop_of_length-le xs {i = k} all)

  front_same : i < length ys → k < length xs → get_or ys i (pos 0) ≡ get_or xs k (pos 0)
      → front n (drop i ys) (drop k xs) ≡ front (suc n) (drop (suc i) ys) (drop (suc k) xs)
  unfolding front
  front_same l h e = rw (drop-cons ys i (pos 0) l, drop-cons xs k (pos 0) h, same_eq _ _ e)

  pub front_next : (n' i' k' : ℕ) → n' ≡ suc n → i' ≡ suc i → k' ≡ suc k → i < length ys → k < length xs
      → get_or ys i (pos 0) ≡ get_or xs k (pos 0)
      → front n (drop i ys) (drop k xs) ≡ front n' (drop i' ys) (drop k' xs)
  front_next n' i' k' a b c l h e = rw (a, b, c) (front_same l h e)

  pub front_differs : i < length ys → k < length xs → (get_or ys i (pos 0) ≡ get_or xs k (pos 0) → ⊥) → front n (drop i ys) (drop k xs) ≡ differs n
  unfolding front
  front_differs l h e = rw (drop-cons ys i (pos 0) l, drop-cons xs k (pos 0) h, same_not _ _ e)

-- ---- a part before the rest
pub yes_is : (v : Verdict) → is_yes v ≡ true → v ≡ yes
unfolding is_yes
yes_is (refused why) e = absurd (subst T (sym e) tt)
yes_is yes e = refl
yes_is (differs n) e = absurd (subst T (sym e) tt)
yes_is short e = absurd (subst T (sym e) tt)
yes_is long e = absurd (subst T (sym e) tt)

pub record Passed (n : ℕ) (a b xs : List ℤ) : Type 0 where
  pub enough : length a ≤ length xs
  pub rest : beside n (a ++ b) xs ≡ beside (n + length a) b (drop (length a) xs)

pub passed : (a : List ℤ) (n : ℕ) (b xs : List ℤ) → is_yes (front n a xs) ≡ true → Passed n a b xs
unfolding front beside is_yes
passed [] n b xs e = let same : n ≡ n + 0 = omega arith in record { enough = zero-le; rest = ap (λ (k : ℕ). beside k b xs) same }
passed (y ∷ a) n b [] e = absurd (subst T (sym e) tt)
passed (y ∷ a) n b (x ∷ xs) e = by_test (same_sample y x) refl (passed a (suc n) b xs) e
  where
    by_test : (t : Bool) → same_sample y x ≡ t → (is_yes (front (suc n) a xs) ≡ true → Passed (suc n) a b xs)
        → is_yes (cond t (front (suc n) a xs) (differs n)) ≡ true → Passed n (y ∷ a) b (x ∷ xs)
    by_test true s on e =
        let p = on e in
        let number : suc n + length a ≡ n + suc (length a) = omega arith in
        record { enough = omega (arith, p.enough); rest = rw s (p.rest ∙ ap (λ (k : ℕ). beside k b (drop (length a) xs)) number) }
    by_test false s on e = absurd (subst T (sym e) tt)

pub stopped : (a : List ℤ) (n : ℕ) (b xs : List ℤ) → is_yes (front n a xs) ≡ false → front n a xs ≡ beside n (a ++ b) xs
unfolding front beside is_yes
stopped [] n b xs e = absurd (subst T e tt)
stopped (y ∷ a) n b [] e = refl
stopped (y ∷ a) n b (x ∷ xs) e = by_test (same_sample y x) refl (stopped a (suc n) b xs) e
  where
    by_test : (t : Bool) → same_sample y x ≡ t → (is_yes (front (suc n) a xs) ≡ false → front (suc n) a xs ≡ beside (suc n) (a ++ b) xs)
        → is_yes (cond t (front (suc n) a xs) (differs n)) ≡ false → cond t (front (suc n) a xs) (differs n) ≡ cond t (beside (suc n) (a ++ b) xs) (differs n)
    by_test true s on e = on e
    by_test false s on e = refl

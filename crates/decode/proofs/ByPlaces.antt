-- What `all` answers of a list, by the list's places. Assumes nothing.
use mathlib.Core.Path.{◌≡◌, refl, ap, sym, ◌∙◌}
use mathlib.Core.Bool.{Bool}
use mathlib.Core.List.{List}
use Prim.Native.Nat.{ℕ, zero, suc, ◌≤◌}
use native.Mathlib.Numerals.{add-one}
use native.Mathlib.Nat.{le_refl}
use native.Mathlib.Omega.{arith}
use lib.ListN.{length, get_or, take}
use lib.Seq.{take-length}
use Rattle.std.specs.List.{list_all}
use Rattle.std.proofs.lemmas.List.Folds.{list_all_more}
use Rattle.numbers.specs.Below.{all_below}

module _ {A : Type 0} (t : A → Bool) (vs : List A) (d : A) where
  all_of_first : (n : ℕ) → n ≤ length vs → list_all t (take n vs) ≡ all_below n (λ (i : ℕ). t (get_or vs i d))
  unfolding all_below
  all_of_first zero h = refl
  all_of_first (suc n) h =
      let more = rw add-one at (list_all_more t vs n d h) in
      more ∙ rw (all_of_first n (omega arith))

  pub all_by_places : list_all t vs ≡ all_below (length vs) (λ (i : ℕ). t (get_or vs i d))
  all_by_places = ap (list_all t) (sym (take-length vs)) ∙ all_of_first (length vs) (le_refl _)

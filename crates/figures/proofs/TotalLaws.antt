-- Totals, one by one: when they are fit, and when a sum would pass 2^63. Assumes nothing.
use mathlib.Core.Path.{◌≡◌, refl, sym, ap, ◌∙◌}
use mathlib.Core.Bool.{Bool, true, false, not, ◌&&◌}
use mathlib.Core.List.{List, ◌++◌}
use Prim.Native.Nat.{ℕ, zero, suc, ◌^◌, ◌≤◌, ◌<◌}
use native.Mathlib.Numerals.{add-one}
use native.Mathlib.Omega.{arith}
use borrow.Author.Tests.{le-leb, lt-leb, not-false}
use lib.Dec.{leb, leb→le}
use lib.ListN.{length, get_or, take, drop}
use lib.Seq.{take_all, drop-cons, get_or_at}
use Rattle.std.specs.List.{list_all}
use Rattle.std.proofs.lemmas.List.Folds.{list_all_more}
use Rattle.numbers.specs.Below.{all_below}
use Rattle.numbers.specs.Firsts.{firsts, written}
use Rattle.numbers.proofs.Firsts.{length_firsts}
use Rattle.numbers.proofs.Tests.{holds}
use Rattle.numbers.proofs.Below.{all_below_lem, all_failed, all_more}
use Rattle.figures.specs.Totals.{total_at, most_total, totals_fit, summed_at, would_pass}

abbrev pub fit_at : List ℕ → ℕ → Bool
fit_at totals i = leb (total_at totals i) most_total

abbrev pub sum_fit_at : List ℕ → List ℕ → ℕ → Bool
sum_fit_at a b i = leb (summed_at a b i) most_total

pub fit_below : (totals : List ℕ) → totals_fit totals ≡ true → (i : ℕ) → i < 24 → total_at totals i ≤ 2 ^ 63
unfolding totals_fit
fit_below totals e i l = leb→le _ _ (all_below_lem 24 (fit_at totals) (holds e) i l)

pub fits_not : (totals : List ℕ) (i : ℕ) → i < 24 → 2 ^ 63 < total_at totals i → totals_fit totals ≡ false
unfolding totals_fit
fits_not totals i l h = all_failed 24 (fit_at totals) i l (lt-leb _ _ h)

pub passes : (a b : List ℕ) (i : ℕ) → i < 24 → 2 ^ 63 < summed_at a b i → would_pass a b ≡ true
unfolding would_pass
passes a b i l h = ap not (all_failed 24 (sum_fit_at a b) i l (lt-leb _ _ h))

pub passes_not : (a b : List ℕ) → all_below 24 (sum_fit_at a b) ≡ true → would_pass a b ≡ false
unfolding would_pass
passes_not a b e = ap not e

pub sum_below : (a b : List ℕ) → would_pass a b ≡ false → (i : ℕ) → i < 24 → summed_at a b i ≤ 2 ^ 63
unfolding would_pass
sum_below a b e i l = leb→le _ _ (all_below_lem 24 (sum_fit_at a b) (holds (not-false (all_below 24 (sum_fit_at a b)) e)) i l)

-- ---- each total is small
all_up_to : (n : ℕ) (test : ℕ → Bool) → ((i : ℕ) → i < n → test i ≡ true) → all_below n test ≡ true
unfolding all_below
all_up_to zero test h = refl
all_up_to (suc n) test h = all_more n test (all_up_to n test (λ i l. h i (omega arith))) (h n (omega arith))

pub fits_all : (totals : List ℕ) → ((i : ℕ) → i < 24 → total_at totals i ≤ 2 ^ 63) → totals_fit totals ≡ true
unfolding totals_fit
fits_all totals h = all_up_to 24 (fit_at totals) (λ i l. le-leb (total_at totals i) most_total (h i l))

pub passes_none : (a b : List ℕ) → ((i : ℕ) → i < 24 → summed_at a b i ≤ 2 ^ 63) → would_pass a b ≡ false
passes_none a b h = passes_not a b (all_up_to 24 (sum_fit_at a b) (λ i l. le-leb (summed_at a b i) most_total (h i l)))

-- ---- the totals as the code goes through them
all_first : (totals : List ℕ) (n : ℕ) → n ≤ length totals → list_all (λ (x : ℕ). leb x most_total) (take n totals) ≡ all_below n (fit_at totals)
unfolding all_below
all_first totals zero h = refl
all_first totals (suc n) h =
    rw (← add-one n) (list_all_more (λ (x : ℕ). leb x most_total) totals n 0 (omega arith)) ∙ ap (λ (b : Bool). b && fit_at totals n) (all_first totals n (omega arith))

pub all_small : (totals : List ℕ) → length totals ≡ 24 → list_all (λ (x : ℕ). leb x most_total) totals ≡ all_below 24 (fit_at totals)
all_small totals e = ap (list_all (λ (x : ℕ). leb x most_total)) (sym (take_all 24 totals (omega (arith, e)))) ∙ all_first totals 24 (omega (arith, e))

-- a total that is not yet summed is as it was
pub not_yet : (f : ℕ → ℕ) (n : ℕ) (totals : List ℕ) → n < length totals → get_or (written f n totals) n 0 ≡ get_or totals n 0
not_yet f n totals h =
    ap (λ (l : List ℕ). get_or (firsts f n ++ l) n 0) (drop-cons totals n 0 h) ∙ get_or_at (firsts f n) (get_or totals n 0) (drop (suc n) totals) 0 n (length_firsts f n)

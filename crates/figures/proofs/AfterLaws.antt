-- Figures after a list of offers, part by part: what the loop over a recording keeps. Assumes nothing.
use Rattle.std.specs.Prelude.{Float, Option, Some, None}
use mathlib.Core.Path.{◌≡◌, refl, sym, ap, ◌∙◌}
use mathlib.Core.Bool.{Bool, true, false, cond}
use mathlib.Core.List.{List, [], ◌∷◌, ◌++◌}
use Prim.Native.Nat.{ℕ, ◌+◌, ◌<◌}
use native.Mathlib.Omega.{arith}
use borrow.Author.Tests.{eqb-true, eqb-false}
use lib.Dec.{eqb}
use lib.ListN.{get_or, set, length-set, get_or-replicate}
use lib.Seq.{get_or-set_same, get_or-set_other, ext_get_or}
use Rattle.numbers.specs.Firsts.{firsts}
use Rattle.numbers.proofs.Firsts.{length_firsts, firsts_same, firsts_at}
use Rattle.listening.specs.Listener.{Listed}
use Rattle.figures.specs.declared.Figures.{Figures}
use Rattle.figures.specs.Totals.{total_at, no_figures_lem, summed, lesser, greater, plus}
use Rattle.figures.specs.FullList.{number_at_lem, least_from, greatest_from, carrier_place, after_at, after}

pub number_two : (i : ℕ) (a b : List Listed) → number_at_lem i (a ++ b) ≡ number_at_lem i a + number_at_lem i b
unfolding number_at_lem
number_two i [] b = omega arith
number_two i (o ∷ a) b = let on = number_two i a b in omega arith

least_two : (g : Option Float) (a b : List Listed) → least_from g (a ++ b) ≡ least_from (least_from g a) b
unfolding least_from
least_two g [] b = refl
least_two g (o ∷ a) b = least_two (lesser g (Some o.due.gain)) a b

greatest_two : (g : Option Float) (a b : List Listed) → greatest_from g (a ++ b) ≡ greatest_from (greatest_from g a) b
unfolding greatest_from
greatest_two g [] b = refl
greatest_two g (o ∷ a) b = greatest_two (greater g (Some o.due.gain)) a b

carrier_two : (t : Bool) (m n : ℕ) → cond t (m + n) 0 ≡ cond t m 0 + cond t n 0
carrier_two true m n = refl
carrier_two false m n = refl

pub same_figures : {a b : List ℕ} {g h k l : Option Float} → a ≡ b → g ≡ h → k ≡ l → ◌≡◌ {A = Figures} (record { totals = a; smallest = g; largest = k }) (record { totals = b; smallest = h; largest = l })
same_figures p q r = cc

-- two lists, one after the other
pub after_two : (f : Figures) (a b : List Listed) (m n : ℕ) → after f (a ++ b) (m + n) ≡ after (after f a m) b n
unfolding after
after_two f a b m n =
    same_figures
    (firsts_same (after_at f (a ++ b) (m + n)) _ 24 (λ i l.
    let old = firsts_at (after_at f a m) 24 i 0 l in
    let numbers = number_two i a b in
    let carriers = carrier_two (eqb i carrier_place) m n in
    omega arith))
    (least_two f.smallest a b)
    (greatest_two f.largest a b)

pub lesser_none : (g : Option Float) → lesser g None ≡ g
unfolding lesser
lesser_none None = refl
lesser_none (Some x) = refl

pub greater_none : (g : Option Float) → greater g None ≡ g
unfolding greater
greater_none None = refl
greater_none (Some x) = refl

sum_after : (f : Figures) (list : List Listed) (m : ℕ)
    → summed f.totals (firsts (after_at no_figures_lem list m) 24) ≡ firsts (after_at f list m) 24
unfolding summed
sum_after f list m =
    firsts_same _ (after_at f list m) 24 (λ i l.
    let new = firsts_at (after_at no_figures_lem list m) 24 i 0 l in
    let none : total_at no_figures_lem.totals i ≡ 0 = get_or-replicate 24 i 0 0 l in
    omega arith)

-- what a turn adds: no offer, or one
pub plus_none : (f : Figures) (m : ℕ) → plus f (after no_figures_lem [] m) ≡ after f [] m
unfolding plus after least_from greatest_from
plus_none f m = same_figures (sum_after f [] m) (lesser_none f.smallest) (greater_none f.largest)

pub plus_one : (f : Figures) (o : Listed) (m : ℕ) → plus f (after no_figures_lem (o ∷ []) m) ≡ after f (o ∷ []) m
unfolding plus after least_from greatest_from lesser greater
plus_one f o m = same_figures (sum_after f (o ∷ []) m) refl refl

-- ---- the carrier beside offers, of which none is counted at its place
module _ (list : List Listed) (none_there : number_at_lem carrier_place list ≡ 0) (h : ℕ) where
  abbrev old : List ℕ
  old = firsts (after_at no_figures_lem list 0) 24

  carrier_at_lem : (i : ℕ) → i < 24 → get_or (set old 23 h) i 0 ≡ after_at no_figures_lem list h i
  carrier_at_lem i l = by_test (eqb i 23) refl
    where
      zeros : total_at no_figures_lem.totals i ≡ 0
      zeros = get_or-replicate 24 i 0 0 l

      by_test : (t : Bool) → eqb i 23 ≡ t → get_or (set old 23 h) i 0 ≡ total_at no_figures_lem.totals i + (number_at_lem i list + cond t h 0)
      by_test true e =
          let same : i ≡ 23 = eqb-true i 23 e in
          let there : get_or (set old 23 h) i 0 ≡ h = ap (λ (k : ℕ). get_or (set old 23 h) k 0) same ∙ get_or-set_same old 23 h 0 (omega (arith, length_firsts (after_at no_figures_lem list 0) 24)) in
          let z = zeros in
          let n : number_at_lem i list ≡ 0 = ap (λ (k : ℕ). number_at_lem k list) same ∙ none_there in
          let sum : total_at no_figures_lem.totals i + (number_at_lem i list + h) ≡ h = omega arith in
          there ∙ sym sum
      by_test false e =
          let other : i ≡ 23 → ⊥ = eqb-false i 23 e in
          get_or-set_other old 23 i h 0 other ∙ firsts_at (after_at no_figures_lem list 0) 24 i 0 l ∙ ap (λ (c : ℕ). total_at no_figures_lem.totals i + (number_at_lem i list + c)) (rw e)

  pub with_carrier : ◌≡◌ {A = Figures} (record { totals = set old 23 h; smallest = least_from None list; largest = greatest_from None list }) (after no_figures_lem list h)
  unfolding after
  with_carrier =
      let size = length_firsts (after_at no_figures_lem list 0) 24 in
      let size' = length_firsts (after_at no_figures_lem list h) 24 in
      same_figures
      (ext_get_or 0 (set old 23 h) (firsts (after_at no_figures_lem list h) 24) (length-set old 23 h ∙ size ∙ sym size') (λ i l.
      let inside : i < 24 = omega (arith, length-set old 23 h, size) in
      carrier_at_lem i inside ∙ sym (firsts_at (after_at no_figures_lem list h) 24 i 0 inside)))
      refl refl

-- no offers: zeros
pub no_offers : no_figures_lem ≡ after no_figures_lem [] 0
unfolding after least_from greatest_from number_at_lem firsts
no_offers = refl

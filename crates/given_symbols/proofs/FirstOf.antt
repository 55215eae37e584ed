-- Request c: the first symbol that is not within -1 to 1, with its number and place, decides; and there is one such. Assumes nothing.
use mathlib.Core.Path.{◌≡◌, refl, sym, subst, ap, ◌∙◌}
use mathlib.Core.Logic.{inl, inr}
use mathlib.Core.Bool.{false}
use mathlib.Core.List.{List}
use Prim.Native.Nat.{ℕ, zero, suc, ◌<◌}
use native.Mathlib.Numerals.{add-one}
use native.Mathlib.Omega.{arith}
use borrow.Author.Count.{below_more}
use lib.Dec.{T}
use lib.ListN.{get_or}
use lib.Ieee.{Float, nan}
use Rattle.numbers.proofs.Tests.{lt_or_le}
use Rattle.protocol.specs.Refusals.{PaperRefusal, placed}
use Rattle.given_symbols.specs.Offender.{PaperVerdict, refused, fine, symbol_fit, judged, earlier, judged_below}
use Rattle.given_symbols.proofs.SymbolFaults.{Fault, Judgement, fits, wrong, judgement, number_in, one_number}

-- ---- the first of them
module _ (symbols : List Float) where
  abbrev symbol : ℕ → Float
  symbol i = get_or symbols i nan

  -- "the place of the first offending symbol", with that symbol's number
  pub record Offends (number place : ℕ) : Type 0 where
    pub fault : Fault (symbol place) number
    pub outside : symbol_fit (symbol place) ≡ false
    pub earlier_fit : (i : ℕ) → i < place → T (symbol_fit (symbol i))

  pub data FirstOf (n : ℕ) : PaperVerdict → Type 0 where
    none : ((i : ℕ) → i < n → T (symbol_fit (symbol i))) → FirstOf n fine
    first : (why : PaperRefusal) (number place : ℕ) → why ≡ placed number place → place < n → Offends number place → FirstOf n (refused why)

  one_more : (n : ℕ) (a b : PaperVerdict) → FirstOf n a → Judgement n (symbol n) b → FirstOf (suc n) (earlier a b)
  one_more n fine fine (none all) (fits t) = none (rw (add-one n) at (below_more (λ (i : ℕ). T (symbol_fit (symbol i))) n all t))
  one_more n fine (refused why) (none all) (wrong _ number told fault out) = first why number n told (omega arith) (record { fault = fault; outside = out; earlier_fit = all })
  one_more n (refused why) b (first _ number place told l o) j = first why number place told (omega arith) o

  pub first_of : (n : ℕ) → FirstOf n (judged_below n symbols)
  unfolding judged_below
  first_of zero = none λ i l. absurd (omega arith)
  first_of (suc n) = one_more n (judged_below n symbols) (judged n (symbol n)) (first_of n) (judgement n (symbol n))

  -- where no symbol is wrong
  pub fit_judged : (n : ℕ) → ((i : ℕ) → i < n → T (symbol_fit (symbol i))) → judged_below n symbols ≡ fine
  fit_judged n all = by_first (judged_below n symbols) (first_of n)
    where
      by_first : (a : PaperVerdict) → FirstOf n a → a ≡ fine
      by_first fine f = refl
      by_first (refused why) (first _ number place told l o) = absurd (subst T o.outside (all place l))

-- ---- there is one
one_place : (symbols : List Float) (n k i j : ℕ) → Offends symbols n i → Offends symbols k j → i < j → ⊥
one_place symbols n k i j a b l = subst T a.outside (b.earlier_fit i l)

pub one_offender : (symbols : List Float) (n k i j : ℕ) → Offends symbols n i → Offends symbols k j → (n ≡ k) × (i ≡ j)
one_offender symbols n k i j a b =
    let same : i ≡ j = elim (lt_or_le i j) [
      | inl l ↦ absurd (one_place symbols n k i j a b l)
      | inr l ↦ elim (lt_or_le j i) [ inl m ↦ absurd (one_place symbols k n j i b a m) | inr m ↦ omega arith ]
    ]
    in
    let there : number_in (get_or symbols i nan) ≡ number_in (get_or symbols j nan) = ap (λ (place : ℕ). number_in (get_or symbols place nan)) same in
    (one_number _ n a.fault ∙ there ∙ sym (one_number _ k b.fault), same)

-- Request b: 11 is given exactly to 192 symbols within -1 to 1 that are not headed as their traffic asks. Assumes nothing.
use mathlib.Core.Path.{◌≡◌, refl, subst}
use mathlib.Core.Logic.{◌↔◌}
use mathlib.Core.Bool.{Bool, true, false, not, cond}
use mathlib.Core.List.{List}
use Prim.Native.Nat.{ℕ}
use native.Mathlib.Omega.{arith}
use borrow.Author.Tests.{eqb-true, eq-eqb}
use lib.Dec.{T, eqb}
use lib.ListN.{length, get_or}
use lib.Ieee.{Float, nan}
use Rattle.numbers.proofs.Below.{all_below_lem, below_all}
use Rattle.protocol.specs.Refusals.{bare}
use Rattle.given_symbols.specs.declared.Traffic.{Traffic}
use Rattle.given_symbols.specs.Offender.{PaperVerdict, refused, fine, symbol_fit, all_fit, earlier, judged_below, headed, judged_as}
use Rattle.given_symbols.proofs.FirstOf.{FirstOf, none, first, first_of}

module _ (traffic : Traffic) (symbols : List Float) where
  pub record Unheaded : Type 0 where
    pub count : length symbols ≡ 192
    pub inside : T (all_fit symbols)
    pub head : headed traffic symbols ≡ false

  -- what is made of them, by the tests
  abbrev verdict_by : Bool → PaperVerdict → Bool → PaperVerdict
  verdict_by counted a head = cond (not counted) (refused (bare 6)) (earlier a (cond head fine (refused (bare 11))))

  found : (counted : Bool) (a : PaperVerdict) (head : Bool) → eqb (length symbols) 192 ≡ counted → FirstOf symbols 192 a → headed traffic symbols ≡ head → verdict_by counted a head ≡ refused (bare 11) → Unheaded
  found false a head c o h e = let z : ◌≡◌ {A = ℕ} 0 1 = cc in absurd (omega arith)
  found true fine true c (none all) h e = let z : ◌≡◌ {A = ℕ} 0 1 = cc in absurd (omega arith)
  found true fine false c (none all) h e = record { count = eqb-true (length symbols) 192 c; inside = below_all 192 (λ (i : ℕ). symbol_fit (get_or symbols i nan)) all; head = h }
  found true (refused why) head c (first _ number place told l o) h e = let z : ◌≡◌ {A = ℕ} 0 1 = cc in absurd (omega arith)

  told_by_lem : (a : PaperVerdict) → FirstOf symbols 192 a → T (all_fit symbols) → verdict_by true a false ≡ refused (bare 11)
  told_by_lem fine (none all) t = refl
  told_by_lem (refused why) (first _ number place told l o) t = absurd (subst T o.outside (all_below_lem 192 (λ (i : ℕ). symbol_fit (get_or symbols i nan)) t place l))

  pub wrong_burst : (judged_as traffic symbols ≡ refused (bare 11)) ↔ Unheaded
  unfolding judged_as
  wrong_burst = (
    found (eqb (length symbols) 192) (judged_below 192 symbols) (headed traffic symbols) refl (first_of symbols 192) refl,
    λ u. rw (eq-eqb (length symbols) 192 u.count, u.head) (told_by_lem (judged_below 192 symbols) (first_of symbols 192) u.inside),
  )

-- The numbers of a report, place by place. Assumes nothing.
use mathlib.Core.Path.{◌≡◌, refl, ap, ◌∙◌}
use mathlib.Core.Bool.{true, false}
use Prim.Native.Nat.{ℕ, ◌+◌, ◌-◌, ◌<◌}
use native.Mathlib.Omega.{arith}
use borrow.Author.Tests.{lt-ltb, le-ltb}
use lib.Dec.{ltb}
use lib.ListN.{get_or}
use Rattle.numbers.proofs.Firsts.{firsts_at}
use Rattle.figures.specs.declared.Report.{Report}
use Rattle.library_report.specs.Layout.{held_flags, number_at_lem, numbers_of_lem}

module _ (r : Report) where
  abbrev at_place : ℕ → ℕ
  at_place = number_at_lem r.at_48.totals r.at_24.totals (held_flags r)

  number_is : (i : ℕ) → i < 52 → get_or (numbers_of_lem r) i 0 ≡ at_place i
  unfolding numbers_of_lem
  number_is i few = firsts_at at_place 52 i 0 few

  pub first_number : (i : ℕ) → i < 24 → get_or (numbers_of_lem r) (0 + i) 0 ≡ get_or r.at_48.totals i 0
  first_number i few =
      let at : 0 + i ≡ i = omega arith in
      let a : ltb i 24 ≡ true = lt-ltb i 24 few in
      ap (λ (j : ℕ). get_or (numbers_of_lem r) j 0) at ∙ number_is i (omega (arith, few)) ∙ rw a refl

  pub second_number : (i : ℕ) → i < 24 → get_or (numbers_of_lem r) (24 + i) 0 ≡ get_or r.at_24.totals i 0
  second_number i few =
      let a : ltb (24 + i) 24 ≡ false = le-ltb (24 + i) 24 (omega arith) in
      let b : ltb (24 + i) 48 ≡ true = lt-ltb (24 + i) 48 (omega (arith, few)) in
      let at : (24 + i) - 24 ≡ i = omega arith in
      number_is (24 + i) (omega (arith, few)) ∙ rw (a, b, at) refl

  pub held_number : (i : ℕ) → i < 4 → get_or (numbers_of_lem r) (48 + i) 0 ≡ get_or (held_flags r) i 0
  held_number i few =
      let a : ltb (48 + i) 24 ≡ false = le-ltb (48 + i) 24 (omega arith) in
      let b : ltb (48 + i) 48 ≡ false = le-ltb (48 + i) 48 (omega arith) in
      let at : (48 + i) - 48 ≡ i = omega arith in
      number_is (48 + i) (omega (arith, few)) ∙ rw (a, b, at) refl

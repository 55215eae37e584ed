-- `same_float` meets its contract: what equals itself is no not-a-number, and its pattern is its own. Assumes nothing.
use mathlib.Core.Path.{◌≡◌, sym, ap, ◌∙◌, subst}
use mathlib.Core.Bool.{true}
use borrow.Author.Tests.{eqb-true, eq-eqb}
use lib.Dec.{T}
use lib.Ieee.{Float, nan, binary32, fits, of_bits, to_bits, ne}
use lib.Ieee.Bits.{of_bits-to_bits}
use lib.Ieee.Compare.{differs_from_itself}
use Rattle.numbers.proofs.Pattern.{equals_itself}
use Rattle.cases_text.proofs.reading.same_float.Goals as goal

no_number : (x : Float) → ne x x ≡ true → x ≡ nan
no_number x h = differs_from_itself x (subst T (sym h) tt)

same_pattern : (a b : Float) → T (fits binary32 a) → T (fits binary32 b) → to_bits binary32 a ≡ to_bits binary32 b → a ≡ b
same_pattern a b fa fb e = sym (of_bits-to_bits binary32 a fa) ∙ ap (of_bits binary32) e ∙ of_bits-to_bits binary32 b fb

pub float_to_bits-pattern : goal.float_to_bits-pattern
float_to_bits-pattern c = equals_itself _ c.if-a.false

pub float_to_bits-other : goal.float_to_bits-other
float_to_bits-other c = equals_itself _ c.if-b.false

pub returns-then-a : goal.returns-then-a
returns-then-a c =
    let s = c.args in
    (λ other. no_number s.a c.if-a.true ∙ sym (no_number s.b other), λ e. subst (λ (x : Float). ne x x ≡ true) e c.if-a.true)

pub returns-else-b : goal.returns-else-b
returns-else-b c =
    let s = c.args in (
      λ h. same_pattern s.a s.b (subst T (sym c.well_formed.0.1) tt) (subst T (sym c.well_formed.1.0.1) tt) (eqb-true _ _ h),
      λ e. eq-eqb _ _ (ap (to_bits binary32) e),
    )

-- `of_pattern` meets its contract: a pattern is no number's exactly if it lies above infinity's, the sign left out. Assumes nothing.
use mathlib.Core.Path.{◌≡◌, refl, sym, ◌∙◌, subst}
use mathlib.Core.Bool.{Bool, true, not, true≢false}
use borrow.Author.Tests.{lt-ltb, le-ltb}
use lib.Dec.{T}
use lib.Ieee.{Float, nan, inf, fin, binary32, of_bits, is_nan, div}
use lib.Ieee.Bits.{nan_bits_is, nan_bits_above}
use Rattle.numbers.proofs.of_pattern.Goals as goal

no_number : (x : Float) → is_nan x ≡ true → x ≡ nan
unfolding is_nan
no_number nan h = refl
no_number (inf s) h = absurd (true≢false (sym h))
no_number (fin s m e) h = absurd (true≢false (sym h))

pub float_from_bits-result : goal.float_from_bits-result
float_from_bits-result c =
    subst (λ (b : Bool). T (not b)) (sym (nan_bits_above binary32 c.args.pattern ∙ le-ltb _ _ c.if-pattern-gt2139095040.false)) tt

pub returns-then-pattern-gt2139095040 : goal.returns-then-pattern-gt2139095040
unfolding div of_bits
returns-then-pattern-gt2139095040 c =
    let n = c.args.pattern in
    sym (no_number (of_bits binary32 n) (sym (nan_bits_is binary32 n) ∙ nan_bits_above binary32 n ∙ lt-ltb _ _ c.if-pattern-gt2139095040.true))

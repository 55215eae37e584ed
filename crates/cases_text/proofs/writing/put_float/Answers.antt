-- `put_float` meets its contract: what equals itself has a pattern, and the rest is the one not-a-number. Assumes nothing.
use mathlib.Core.Path.{◌≡◌, refl, sym, subst}
use mathlib.Core.Bool.{Bool, true, false, not}
use lib.Dec.{T}
use lib.Ieee.{nan, is_nan}
use lib.Ieee.Compare.{differs_from_itself}
use Rattle.numbers.proofs.Pattern.{equals_itself}
use Rattle.cases_text.proofs.writing.put_float.Goals as goal

-- a test that fails
fails : (b : Bool) → T (not b) → b ≡ false
fails false h = refl
fails true h = absurd h

pub float_to_bits-pattern : goal.float_to_bits-pattern
float_to_bits-pattern g c = equals_itself _ c.if-x.false

pub returns-then-x : goal.returns-then-x
unfolding is_nan
returns-then-x g c =
    let it_is : c.args.x ≡ nan = differs_from_itself c.args.x (subst T (sym c.if-x.true) tt) in
    rw it_is c.write_all.ensures.bytes

pub returns-else-x : goal.returns-else-x
returns-else-x g c =
    let number : is_nan c.args.x ≡ false = fails _ (equals_itself _ c.if-x.false) in
    rw number (rw (c.in_radix.ensures, c.laid_out.ensures) at c.write.ensures.bytes)

-- `numbers::cut_to_i16` meets its contract: what the two parts answer is what `cut_by_pattern` says of the pattern. Assumes nothing.
use mathlib.Core.Path.{sym, ap, ◌∙◌, subst}
use lib.Dec.{T, lit≤}
use lib.Ieee.{binary32, to_signed}
use lib.Ieee.Compare.{differs_from_itself}
use mir.Syntax.{w16}
use mir.ValLaws.{to_z-of_z}
use Rattle.numbers.specs.Cut.{signed}
use Rattle.numbers.proofs.Pattern.{equals_itself}
use Rattle.numbers.proofs.Cut.{cut_by_pattern}
use Rattle.numbers.proofs.cut_to_i16.Goals as goal

pub returns-then-x : goal.returns-then-x
unfolding to_signed
returns-then-x c = ap (to_signed 15) (sym (differs_from_itself c.args.x (subst T (sym c.if-x.true) tt)))

pub float_to_bits-bits : goal.float_to_bits-bits
float_to_bits-bits c = equals_itself c.args.x c.if-x.false

pub returns : goal.returns
returns c =
    to_z-of_z w16 c.with_sign.result (record { sfits = c.with_sign.type_inv })
    ∙ c.with_sign.ensures
    ∙ ap (signed 15 _) c.whole_part-size.ensures
    ∙ cut_by_pattern binary32 15 (lit≤ tt) c.args.x (subst T (sym c.well_formed.0.1) tt) (float_to_bits-bits c.before.before)

-- `writing::pattern` meets its contract: what equals itself has a pattern, and 0x7fc0_0000 is the logic's own for what does not. Assumes nothing.
use mathlib.Core.Path.{sym, ap, subst}
use lib.Dec.{T}
use lib.Ieee.{binary32, to_bits}
use lib.Ieee.Compare.{differs_from_itself}
use Rattle.numbers.proofs.Pattern.{equals_itself}
use Rattle.wire.proofs.writing.pattern.Goals as goal

pub float_to_bits-result : goal.float_to_bits-result
float_to_bits-result c = equals_itself c.args.x c.if-x.false

pub returns-then-x : goal.returns-then-x
unfolding to_bits
returns-then-x c = ap (to_bits binary32) (sym (differs_from_itself c.args.x (subst T (sym c.if-x.true) tt)))

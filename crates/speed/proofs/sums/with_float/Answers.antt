-- `with_float` is safe: what equals itself has a pattern, of 32 digits. Assumes nothing.
use Rattle.std.proofs.Common.{arith, sym}
use mathlib.Core.Path.{subst}
use lib.Dec.{T}
use lib.Ieee.{binary32}
use lib.Ieee.Bits.{to_bits-lt}
use Rattle.numbers.proofs.Pattern.{equals_itself}
use Rattle.speed.proofs.sums.with_float.Goals as goal

pub float_to_bits-x : goal.float_to_bits-x
float_to_bits-x c = equals_itself _ c.if-x.false

pub overflow_cast-x : goal.overflow_cast-x
overflow_cast-x c = record { fits = omega (arith, to_bits-lt binary32 c.args.x (subst T (sym c.well_formed.1.0.1) tt)) }

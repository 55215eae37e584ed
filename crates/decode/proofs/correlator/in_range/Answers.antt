-- `in_range` meets its contract: the definition's two tests are the code's. Assumes nothing.
use mathlib.Core.Path.{◌≡◌, refl}
use lib.Ieee.{binary32, of_bits, neg}
use Rattle.decode.specs.Correlator.{in_range}
use Rattle.decode.proofs.correlator.in_range.Goals as goal

-- the limit below is the limit above with its sign turned
turned : neg (of_bits binary32 0x4974_2400) ≡ of_bits binary32 0xc974_2400
unfolding neg of_bits
turned = refl

pub returns-then-value : goal.returns-then-value
unfolding in_range
returns-then-value c = rw (← turned, c.if-value.true)

pub returns-else-value : goal.returns-else-value
unfolding in_range
returns-else-value c = rw (← turned, c.if-value.false)

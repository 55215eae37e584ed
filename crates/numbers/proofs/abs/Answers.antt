-- `numbers::abs` meets its contract: a law of proofs/Size.antt for each of the three ways that the tests go. Assumes nothing.
use lib.Ieee.{binary32, of_bits}
use Rattle.numbers.proofs.Size.{below_zero, level_with_zero, above_zero}
use Rattle.numbers.proofs.abs.Goals as goal

pub returns-then-x : goal.returns-then-x
unfolding of_bits
returns-then-x c = below_zero c.args.x c.if-x.true

pub returns-then-x-2 : goal.returns-then-x-2
unfolding of_bits
returns-then-x-2 c = level_with_zero binary32 c.args.x c.well_formed.0.1 c.if-x-2.true

pub returns-else-x-2 : goal.returns-else-x-2
unfolding of_bits
returns-else-x-2 c = above_zero c.args.x c.if-x.false c.if-x-2.false

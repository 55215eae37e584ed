-- `numbers::whole_part` meets its contract: a law of proofs/Cut.antt for each range of the exponent's field. Assumes nothing.
use mathlib.Core.Path.{sym}
use lib.Ieee.{binary32}
use Rattle.numbers.proofs.Cut.{below_one, below_limit, from_limit}
use Rattle.numbers.proofs.whole_part.Goals as goal

pub returns-then-exponent-lt-OF_ONE : goal.returns-then-exponent-lt-OF_ONE
returns-then-exponent-lt-OF_ONE c = sym (below_one binary32 15 c.args.exponent c.args.digits c.if-exponent-lt-OF_ONE.true)

pub returns-then-exponent-lt-OF_LIMIT : goal.returns-then-exponent-lt-OF_LIMIT
returns-then-exponent-lt-OF_LIMIT c =
    sym (below_limit binary32 15 c.args.exponent c.args.digits c.if-exponent-lt-OF_ONE.false c.if-exponent-lt-OF_LIMIT.true)

pub returns-else-exponent-lt-OF_LIMIT : goal.returns-else-exponent-lt-OF_LIMIT
returns-else-exponent-lt-OF_LIMIT c = sym (from_limit binary32 15 c.args.exponent c.args.digits c.if-exponent-lt-OF_LIMIT.false)

-- `numbers::min` meets its contract: the definition's two tests are the code's. Assumes nothing.
use Rattle.numbers.specs.Choice.{smaller}
use Rattle.numbers.proofs.Choice.{by_test, by_default, for_want_of_a_number}
use Rattle.numbers.proofs.min.Goals as goal

pub returns-then-b-a : goal.returns-then-b-a
unfolding smaller
returns-then-b-a c = by_test c.args.a c.args.b c.if-b-a.true

pub returns-then-a : goal.returns-then-a
unfolding smaller
returns-then-a c = by_default c.args.a c.args.b c.if-b-a.false c.if-a.true

pub returns-else-a : goal.returns-else-a
unfolding smaller
returns-else-a c = for_want_of_a_number c.args.a c.args.b c.if-b-a.false c.if-a.false

-- `numbers::max` meets its contract: the definition's two tests are the code's. Assumes nothing.
use Rattle.numbers.specs.Choice.{larger}
use Rattle.numbers.proofs.Choice.{by_test, by_default, for_want_of_a_number}
use Rattle.numbers.proofs.max.Goals as goal

pub returns-then-a-b : goal.returns-then-a-b
unfolding larger
returns-then-a-b c = by_test c.args.a c.args.b c.if-a-b.true

pub returns-then-a : goal.returns-then-a
unfolding larger
returns-then-a c = by_default c.args.a c.args.b c.if-a-b.false c.if-a.true

pub returns-else-a : goal.returns-else-a
unfolding larger
returns-else-a c = for_want_of_a_number c.args.a c.args.b c.if-a-b.false c.if-a.false

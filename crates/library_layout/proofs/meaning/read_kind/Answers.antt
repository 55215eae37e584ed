-- `read_kind` meets its contract. Assumes nothing.
use borrow.Author.Tests.{eq-eqb, ne_eqb}
use Rattle.library_layout.specs.Layout.{kind_at}
use Rattle.library_layout.proofs.meaning.read_kind.Goals as goal

pub returns-then-number-eq1 : goal.returns-then-number-eq1
unfolding kind_at
returns-then-number-eq1 c = rw (eq-eqb _ 1 c.if-number-eq1.true)

pub returns-then-number-eq2 : goal.returns-then-number-eq2
unfolding kind_at
returns-then-number-eq2 c = rw (ne_eqb _ 1 c.if-number-eq1.false, eq-eqb _ 2 c.if-number-eq2.true)

pub returns-then-number-eq3 : goal.returns-then-number-eq3
unfolding kind_at
returns-then-number-eq3 c = rw (ne_eqb _ 1 c.if-number-eq1.false, ne_eqb _ 2 c.if-number-eq2.false, eq-eqb _ 3 c.if-number-eq3.true)

pub returns-else-number-eq3 : goal.returns-else-number-eq3
unfolding kind_at
returns-else-number-eq3 c = rw (ne_eqb _ 1 c.if-number-eq1.false, ne_eqb _ 2 c.if-number-eq2.false, ne_eqb _ 3 c.if-number-eq3.false)

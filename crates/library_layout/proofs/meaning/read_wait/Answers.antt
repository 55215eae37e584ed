-- `read_wait` meets its contract. Assumes nothing.
use borrow.Author.Tests.{eq-eqb, ne_eqb}
use Rattle.library_layout.specs.Layout.{wait_in}
use borrow.Author.Rules.{rules}
use Rattle.library_layout.proofs.meaning.read_wait.Goals as goal

pub returns-then-numbers-eq0 : goal.returns-then-numbers-eq0
unfolding wait_in
returns-then-numbers-eq0 c = rw (eq-eqb _ 0 c.if-numbers-eq0.true)

pub returns : goal.returns
unfolding wait_in
returns c = rw (ne_eqb _ 0 c.if-numbers-eq0.false)

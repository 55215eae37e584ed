-- `read_reply` meets its contract. Assumes nothing.
use borrow.Author.Tests.{eq-eqb, ne_eqb}
use Rattle.library_receiver.proofs.answers.read_reply.Goals as goal

pub returns-then-accepted-eq0 : goal.returns-then-accepted-eq0
returns-then-accepted-eq0 c = rw (eq-eqb _ 0 c.if-accepted-eq0.true)

pub returns-else-accepted-eq0 : goal.returns-else-accepted-eq0
returns-else-accepted-eq0 c = rw (ne_eqb _ 0 c.if-accepted-eq0.false)

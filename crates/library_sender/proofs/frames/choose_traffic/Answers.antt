-- `frames::choose_traffic` meets its contract. Assumes nothing.
use borrow.Author.Tests.{eq-eqb, ne_eqb}
use Rattle.library_sender.proofs.frames.choose_traffic.Goals as goal

pub returns-then-bert-eq0 : goal.returns-then-bert-eq0
returns-then-bert-eq0 c = rw (eq-eqb _ 0 c.if-bert-eq0.true)

pub returns-else-bert-eq0 : goal.returns-else-bert-eq0
returns-else-bert-eq0 c = rw (ne_eqb _ 0 c.if-bert-eq0.false)

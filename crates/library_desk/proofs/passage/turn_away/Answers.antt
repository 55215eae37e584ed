-- `turn_away` meets its contract. Assumes nothing.
use borrow.Author.Tests.{eq-eqb, ne_eqb, lt-ltb, le-ltb}
use Rattle.library_desk.specs.Passage.{turn_code}
use Rattle.library_desk.proofs.passage.turn_away.Goals as goal

-- src/passage.rt:10:9
pub returns-then-flag-eq0 : goal.returns-then-flag-eq0
unfolding turn_code
returns-then-flag-eq0 c = rw (eq-eqb _ 0 c.if-flag-eq0.true)

-- src/passage.rt:13:9
pub returns-then-flag-gt1 : goal.returns-then-flag-gt1
unfolding turn_code
returns-then-flag-gt1 c = rw (ne_eqb _ 0 c.if-flag-eq0.false, lt-ltb 1 _ c.if-flag-gt1.true)

-- src/passage.rt:6:1
pub returns : goal.returns
unfolding turn_code
returns c = rw (ne_eqb _ 0 c.if-flag-eq0.false, le-ltb 1 _ c.if-flag-gt1.false)

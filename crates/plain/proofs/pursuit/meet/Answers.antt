-- `meet` meets its contract. Assumes nothing.
use Rattle.search.specs.Search.{matched}
use Rattle.plain.proofs.pursuit.meet.Goals as goal

pub returns-then-m-diff : goal.returns-then-m-diff
unfolding matched
returns-then-m-diff c = rw (c.in-Held.is, c.if-m-diff.true, c.older-grown.ensures)

pub returns-in-Nothing : goal.returns-in-Nothing
unfolding matched
returns-in-Nothing c = rw c.in-Nothing.is c.take.ensures

pub returns-else-m-diff : goal.returns-else-m-diff
unfolding matched
returns-else-m-diff c = rw (c.in-Held.is, c.if-m-diff.false) c.take-in-Held.ensures

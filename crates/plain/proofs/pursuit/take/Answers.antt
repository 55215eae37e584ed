-- `take` meets its contract. Assumes nothing.
use Rattle.search.specs.Search.{marked}
use Rattle.plain.proofs.pursuit.take.Goals as goal

pub returns-in-None : goal.returns-in-None
unfolding marked
returns-in-None c = rw c.in-None.is

pub returns-in-Some : goal.returns-in-Some
unfolding marked
returns-in-Some c = rw c.in-Some.is

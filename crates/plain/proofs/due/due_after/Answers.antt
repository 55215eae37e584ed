-- `due_after` meets its contract. Assumes nothing.
use Rattle.plain.specs.Rest.{due_of}
use Rattle.plain.proofs.DueLaws.{due_none, due_some}
use Rattle.plain.proofs.due.due_after.Goals as goal

pub returns-then-end-sample : goal.returns-then-end-sample
returns-then-end-sample c =
    rw c.in-Held.is (due_none _ _ _ _ _ c.due_sample-sample.ensures c.if-end-sample.true)

pub returns-in-Nothing : goal.returns-in-Nothing
unfolding due_of
returns-in-Nothing c = rw c.in-Nothing.is

pub returns-else-end-sample : goal.returns-else-end-sample
returns-else-end-sample c =
    rw c.in-Held.is (due_some _ _ _ _ _ c.due_sample-sample.ensures c.if-end-sample.false)

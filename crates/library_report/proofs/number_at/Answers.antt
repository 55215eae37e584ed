-- `number_at` meets its contract. Assumes nothing.
use borrow.Author.Tests.{lt-ltb, le-ltb}
use Rattle.library_report.proofs.number_at.Goals as goal

pub returns-then-place-lt24 : goal.returns-then-place-lt24
returns-then-place-lt24 c = rw (lt-ltb _ _ c.if-place-lt24.true)

pub returns-then-place-lt48 : goal.returns-then-place-lt48
returns-then-place-lt48 c = rw (le-ltb _ _ c.if-place-lt24.false, lt-ltb _ _ c.if-place-lt48.true)

pub returns : goal.returns
returns c = rw (le-ltb _ _ c.if-place-lt24.false, le-ltb _ _ c.if-place-lt48.false)

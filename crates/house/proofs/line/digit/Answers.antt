-- `line::digit` meets its contract. Assumes nothing.
use borrow.Author.Tests.{lt-ltb, le-ltb}
use Rattle.house.proofs.Digits.{by_step}
use Rattle.house.proofs.line.digit.Goals as goal

pub returns-then-value-lt10 : goal.returns-then-value-lt10
returns-then-value-lt10 c = rw (lt-ltb _ _ c.if-value-lt10.true) at (by_step c.args.value c.requires)

pub returns-else-value-lt10 : goal.returns-else-value-lt10
returns-else-value-lt10 c = rw (le-ltb _ _ c.if-value-lt10.false) at (by_step c.args.value c.requires)

-- `line::value` meets its contract: the two stretches of the bytes in which the digits stand. Assumes nothing.
use native.Mathlib.Omega.{arith}
use borrow.Author.Tests.{lt-ltb, le-ltb}
use Rattle.house.proofs.Digits.{by_range}
use Rattle.house.proofs.line.value.Goals as goal

-- from 0 to 9
pub returns-in-48-to-57 : goal.returns-in-48-to-57
returns-in-48-to-57 c =
    let b = c.args.byte in
    rw (le-ltb b 48 (omega arith), lt-ltb b 58 (omega arith)) at (by_range b (omega arith))

-- from A to F
pub returns-in-65-to-70 : goal.returns-in-65-to-70
returns-in-65-to-70 c =
    let b = c.args.byte in
    rw (le-ltb b 48 (omega arith), le-ltb b 58 (omega arith), le-ltb b 65 (omega arith), lt-ltb b 71 (omega arith)) at (by_range b (omega arith))

-- below 0, between, above F
pub returns-in_default : goal.returns-in_default
returns-in_default c =
    let b = c.args.byte in
    rw (lt-ltb b 48 (omega arith)) at (by_range b (omega arith))

pub returns-in_default-2 : goal.returns-in_default-2
returns-in_default-2 c =
    let b = c.args.byte in
    rw (le-ltb b 48 (omega arith), le-ltb b 58 (omega arith), lt-ltb b 65 (omega arith)) at (by_range b (omega arith))

pub returns-in_default-3 : goal.returns-in_default-3
returns-in_default-3 c =
    let b = c.args.byte in
    rw (le-ltb b 48 (omega arith), le-ltb b 58 (omega arith), le-ltb b 65 (omega arith), le-ltb b 71 (omega arith)) at (by_range b (omega arith))

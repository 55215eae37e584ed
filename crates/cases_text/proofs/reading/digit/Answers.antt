-- `digit` meets its contract: the two stretches of the letters in which the digits stand. Assumes nothing.
use Rattle.std.proofs.Common.{arith, lt-ltb, le-ltb, le-leb}
use borrow.Author.Tests.{lt-leb}
use Rattle.cases_text.specs.Numbers.{digit_of}
use Rattle.cases_text.proofs.reading.digit.Goals as goal

pub returns-in-48-to-57 : goal.returns-in-48-to-57
unfolding digit_of
returns-in-48-to-57 c =
    let b = c.args.letter in
    record { value = simp (le-ltb b 48 (omega arith), le-leb b 57 (omega arith)); small = omega arith }

pub returns-in-97-to-102 : goal.returns-in-97-to-102
unfolding digit_of
returns-in-97-to-102 c =
    let b = c.args.letter in
    record { value = simp (le-ltb b 48 (omega arith), lt-leb b 57 (omega arith), le-ltb b 97 (omega arith), le-leb b 102 (omega arith)); small = omega arith }

-- before `0`, between, past `f`
pub returns-in_default : goal.returns-in_default
unfolding digit_of
returns-in_default c =
    let b = c.args.letter in
    record { value = simp (lt-ltb b 48 (omega arith)); small = omega arith }

pub returns-in_default-2 : goal.returns-in_default-2
unfolding digit_of
returns-in_default-2 c =
    let b = c.args.letter in
    record { value = simp (le-ltb b 48 (omega arith), lt-leb b 57 (omega arith), lt-ltb b 97 (omega arith)); small = omega arith }

pub returns-in_default-3 : goal.returns-in_default-3
unfolding digit_of
returns-in_default-3 c =
    let b = c.args.letter in
    record { value = simp (le-ltb b 48 (omega arith), lt-leb b 57 (omega arith), le-ltb b 97 (omega arith), lt-leb b 102 (omega arith)); small = omega arith }

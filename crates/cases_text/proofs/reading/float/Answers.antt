-- `float` meets its contract. Assumes nothing.
use lib.Ieee.{of_bits, div}
use Rattle.cases_text.specs.Numbers.{float_of}
use Rattle.cases_text.proofs.reading.float.Goals as goal

pub returns-then-begins : goal.returns-then-begins
unfolding float_of div of_bits
returns-then-begins c = rw (← c.begins.ensures, c.if-begins.true)

pub returns : goal.returns
unfolding float_of
returns c = rw (← c.begins.ensures, c.if-begins.false, ← c.number-pattern.ensures) c.of_pattern.ensures

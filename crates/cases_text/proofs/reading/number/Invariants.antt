-- What `number` keeps: after i letters the value is the number that they are. Assumes nothing.
use Rattle.std.proofs.Common.{◌≡◌}
use Rattle.cases_text.specs.Numbers.{number_to}
use Rattle.cases_text.proofs.reading.number.Given as goal

abbrev pub invariant-loop-letter : goal.invariant-loop-letter
invariant-loop-letter l = l.value ≡ number_to l.base l.word l.letter-index

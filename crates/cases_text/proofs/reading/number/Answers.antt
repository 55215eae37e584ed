-- `number` meets its contract. Assumes nothing.
use Rattle.std.proofs.Common.{refl, add-one}
use Rattle.cases_text.specs.Numbers.{number_to}
use Rattle.cases_text.proofs.reading.number.Goals as goal

pub loop-letter-init : goal.loop-letter-init
unfolding number_to
loop-letter-init c = refl

pub loop-letter-preserved : goal.loop-letter-preserved
unfolding number_to
loop-letter-preserved c =
    rw (add-one c.loop-letter.letter-index, ← c.digit.ensures.value, ← c.loop-letter.invariant) c.appended-value.ensures

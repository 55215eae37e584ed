-- `begin` meets its contract. Assumes nothing.
use Rattle.std.proofs.Common.{arith, rules, ◌∙◌}
use Rattle.cases_text.specs.Places.{begin_of}
use Rattle.cases_text.proofs.Words.{next_begins}
use Rattle.cases_text.proofs.places.begin.Goals as goal

pub loop-i-init : goal.loop-i-init
unfolding begin_of
loop-i-init c = search rules

pub loop-i-preserved : goal.loop-i-preserved
loop-i-preserved c = (
  omega arith,
  c.next-at.ensures
      ∙ next_begins c.args.letter c.args.line.now c.loop-i._i c.loop-i.at c.find.result c.loop-i.invariant.1 c.find.ensures.value,
)

-- `part` meets its contract. Assumes nothing.
use Rattle.cases_text.proofs.Words.{between_is}
use Rattle.cases_text.proofs.places.part.Goals as goal

pub returns : goal.returns
returns c =
    between_is c.args.letter c.args.line.now c.args.k c.begin-at.result c.find-end.result c.begin-at.ensures.place c.find-end.ensures.value

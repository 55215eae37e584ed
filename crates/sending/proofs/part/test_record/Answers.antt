-- `test_record` meets its contract. Assumes nothing.
use mathlib.Core.Path.{◌∙◌}
use Rattle.sending.proofs.Turns.{told_none}
use Rattle.sending.proofs.part.test_record.Goals as goal

pub returns : goal.returns
returns c = c.provide_next_frame-asked.ensures.answers ∙ told_none c.args.s.modulator _

-- `generate_end_of_transmission` meets its contract.
use mathlib.Core.Path.{◌∙◌}
use Rattle.encode.proofs.Repeats.{end_repeats}
use Rattle.encode.proofs.generate_end_of_transmission.Goals as goal

pub returns : goal.returns
returns c = c.repeated.ensures ∙ end_repeats

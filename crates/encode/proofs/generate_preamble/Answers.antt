-- `generate_preamble` meets its contract.
use mathlib.Core.Path.{◌∙◌}
use Rattle.encode.proofs.Repeats.{preamble_repeats}
use Rattle.encode.proofs.generate_preamble.Goals as goal

pub returns : goal.returns
returns c = c.repeated.ensures ∙ preamble_repeats

-- `writing::lay_number` meets its contract. Assumes nothing.
use mathlib.Core.Path.{ap, ◌∙◌}
use lib.Seq.{sets}
use Rattle.wire.proofs.Bytes.{lows_eight}
use Rattle.wire.proofs.writing.lay_number.Goals as goal

pub returns : goal.returns
returns c = c.lay.ensures ∙ ap (sets c.args.to.now c.args.at) (c.to_le_bytes.ensures ∙ lows_eight c.args.number)

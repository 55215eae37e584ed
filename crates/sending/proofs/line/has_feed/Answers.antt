-- `line::has_feed` meets its contract. Assumes nothing.
use mathlib.Core.Path.{◌∙◌}
use lib.ListN.{take}
use Rattle.sending.proofs.Lines.{feed_among}
use Rattle.sending.proofs.line.has_feed.Goals as goal

pub returns : goal.returns
returns c = c.contains.ensures.value ∙ feed_among (take c.args.n c.args.line)

-- `writing::lay_float` meets its contract. Assumes nothing.
use mathlib.Core.Path.{ap, ◌∙◌}
use lib.Seq.{sets}
use Rattle.wire.specs.Bytes.{lows}
use Rattle.wire.proofs.Bytes.{lows_four}
use Rattle.wire.proofs.writing.lay_float.Goals as goal

pub returns : goal.returns
returns c =
    c.lay.ensures ∙ ap (sets c.args.to.now c.args.at) (c.to_le_bytes.ensures ∙ lows_four c.pattern.result ∙ ap (lows 4) c.pattern.ensures)

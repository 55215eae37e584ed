-- `reading::sample` meets its contract. Assumes nothing.
use mathlib.Core.Path.{ap, ◌∙◌}
use borrow.Author.Rules.{rules}
use mir.Syntax.{w16}
use mir.ValLaws.{to_z-of_z}
use Rattle.house.specs.Samples.{number_of, sample_of}
use Rattle.wire.proofs.Bytes.{two_bytes}
use Rattle.wire.proofs.reading.sample.Goals as goal

pub returns : goal.returns
unfolding sample_of
returns c =
    to_z-of_z w16 c.i16_of_bytes.result (record { sfits = c.i16_of_bytes.type_inv })
    ∙ c.i16_of_bytes.ensures
    ∙ ap number_of (two_bytes c.read.result (search rules) ∙ c.read.ensures)

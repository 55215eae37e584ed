-- `reading::float` meets its contract. Assumes nothing.
use mathlib.Core.Path.{ap, ◌∙◌}
use borrow.Author.Rules.{rules}
use lib.Ieee.{binary32, of_bits}
use Rattle.wire.proofs.Bytes.{four_bytes}
use Rattle.wire.proofs.reading.float.Goals as goal

pub returns : goal.returns
returns c = c.of_pattern.ensures ∙ ap (of_bits binary32) (c.from_le_bytes.ensures ∙ four_bytes c.read.result (search rules) ∙ c.read.ensures)

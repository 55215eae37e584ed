-- `layout::lay_out` meets its contract. Assumes nothing.
use mathlib.Core.Path.{ap}
use borrow.Author.Rules.{rules}
use Rattle.library_sender.specs.Memory.{memory_at}
use Rattle.library_sender.proofs.layout.lay_out.Goals as goal

pub returns : goal.returns
returns c = ap (memory_at _ _) c.write_numbers.ensures

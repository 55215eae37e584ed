-- `number_candidate` meets its contract. Assumes nothing.
use borrow.Author.Rules.{rules}
use Rattle.library_layout.proofs.notation.number_candidate.Goals as goal

pub returns-in-Nothing : goal.returns-in-Nothing
returns-in-Nothing c = rw c.in-Nothing.is

pub returns-in-Held : goal.returns-in-Held
returns-in-Held c = rw (c.in-Held.is, c.kind_code-code.ensures)

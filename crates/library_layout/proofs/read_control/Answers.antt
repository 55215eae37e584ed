-- `read_control` meets its contract. Assumes nothing.
use borrow.Author.Rules.{rules}
use Rattle.library_layout.proofs.read_control.Goals as goal

pub returns : goal.returns
returns c =
    rw (c.read_timer-dcd.ensures, c.read_wait-wait.ensures, c.read_candidate-candidate.ensures)

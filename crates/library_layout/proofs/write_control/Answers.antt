-- `write_control` meets its contract. Assumes nothing.
use mathlib.Core.Path.{refl}
use borrow.Author.Rules.{rules}
use Rattle.library_layout.proofs.write_control.Goals as goal

pub returns : goal.returns
returns c =
    rw (c.flag_of-owed.ensures, c.number_timer-carrier.ensures, c.number_wait-due.ensures, c.number_candidate-held.ensures)
    (record { numbers = refl; levels = refl })

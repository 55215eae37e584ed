-- `layout::write_numbers` meets its contract. Assumes nothing.
use borrow.Author.Rules.{rules}
use Rattle.library_sender.proofs.layout.write_numbers.Goals as goal

pub returns : goal.returns
returns c =
    rw (c.flag_of-wish.ensures, c.flag_of-calculate.ensures, c.flag_of-idle.ensures, c.find_end-end.ensures, c.count_reports-held.ensures)

-- `m17_report_new` meets its contract. Assumes nothing.
use Rattle.library_report.proofs.m17_report_new.Goals as goal

pub returns : goal.returns
returns c = rw (c.gains_of.ensures, c.numbers_of.ensures, c.new-report.ensures)

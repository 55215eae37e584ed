-- `report_in` meets its contract. Assumes nothing.
use Rattle.library_report.proofs.report_in.Goals as goal

pub returns : goal.returns
returns c =
    rw (c.gain_in-high_24.ensures, c.gain_in-low_24.ensures, c.gain_in-high_48.ensures, c.gain_in-low_48.ensures, c.totals_from-second.ensures, c.totals_from-first.ensures)

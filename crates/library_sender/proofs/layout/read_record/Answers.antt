-- `layout::read_record` meets its contract. Assumes nothing.
use native.Mathlib.Omega.{arith}
use borrow.Author.Rules.{rules}
use Rattle.library_sender.proofs.Promises.{rate_small}
use Rattle.library_sender.proofs.layout.read_record.Goals as goal

pub overflow_cast-rate : goal.overflow_cast-rate
overflow_cast-rate c = omega (arith, rate_small _ c.requires)

pub returns : goal.returns
returns c = rw c.read_report-report_tx_end.ensures

-- Calls on a report, one after the other: on its memory, and on the report itself. Assumes nothing.
use Rattle.std.specs.Prelude.{List, ℕ, ℤ}
use Rattle.machine.specs.Runs.{Machine}
use Rattle.figures.specs.declared.Report.{Report}
use Rattle.figures.specs.Answers.{Left, added, merged}
use Rattle.library_report.specs.Layout.{FullTotals}
use Rattle.library_report.specs.Memory.{Memory, Coded, laid_out, settled_code, memory_added, memory_merged}

-- a recording at a rate is added, or another report is merged
pub data Call : Type 0 where
  adds : ℕ → List ℤ → Call
  merges : Report → Call

abbrev pub Given : Call → Type 0
Given (adds rate xs) = Unit {0}
Given (merges other) = FullTotals other

abbrev pub on_memory : Memory → Call → Coded
on_memory m (adds rate xs) = memory_added m rate xs
on_memory m (merges other) = memory_merged m (laid_out other)

abbrev pub on_report : Report → Call → Left
on_report r (adds rate xs) = added r rate xs
on_report r (merges other) = merged r other

-- ---- answered by codes
abbrev pub in_memory : Machine Memory Call ℕ
in_memory = record { next = λ m c. (on_memory m c).memory; says = λ m c. (on_memory m c).code }

abbrev pub by_itself : Machine Report Call ℕ
by_itself = record { next = λ r c. (on_report r c).report; says = λ r c. settled_code (on_report r c).answer }

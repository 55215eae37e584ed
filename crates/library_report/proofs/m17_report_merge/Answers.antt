-- `m17_report_merge` meets its contract. Assumes nothing.
use mathlib.Core.Path.{◌≡◌, sym, ◌∙◌}
use mathlib.Core.Bool.{◌&&◌}
use Rattle.library_report.specs.Layout.{is_report_lem}
use Rattle.library_report.specs.Memory.{memory_at}
use Rattle.library_report.proofs.MemoryCases.{not_both, merge_settles}
use Rattle.library_report.proofs.m17_report_merge.Goals as goal
use Rattle.library_report.proofs.m17_report_merge.Goals.{After-is_report-2}

both_are : (d : After-is_report-2)
    → (d.is_report.result && d.is_report-2.result)
    ≡ (is_report_lem d.args.numbers.now && is_report_lem d.args.other_numbers.now)
both_are d = rw (d.is_report.ensures, d.is_report-2.ensures)

pub returns-then-not-is_report : goal.returns-then-not-is_report
returns-then-not-is_report c =
    let a = c.args in
    not_both (memory_at a.numbers.now a.gains.now) (memory_at a.other_numbers.now a.other_gains.now) (sym (both_are c.before) ∙ c.if-not-is_report.true)

pub returns : goal.returns
returns c =
    let a = c.args in
    merge_settles (memory_at a.numbers.now a.gains.now) (memory_at a.other_numbers.now a.other_gains.now)
    (sym (both_are c.before.before.before.before.before.before.before) ∙ c.if-not-is_report.false) c.merge-after.result (rw (c.report_in-report.ensures, c.report_in-other.ensures) at c.merge-after.ensures) _ _
    c.settle.ensures

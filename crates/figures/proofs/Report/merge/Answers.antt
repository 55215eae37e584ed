-- `Report::merge` meets its contract. Assumes nothing.
use mathlib.Core.Path.{◌≡◌, sym, ◌∙◌}
use mathlib.Core.Bool.{◌&&◌}
use Rattle.figures.specs.Totals.{report_fit_lem}
use Rattle.figures.proofs.JoinLaws.{merged_unfit, merged_fit, fit_both}
use Rattle.figures.proofs.Report.merge.Goals as goal
use Rattle.figures.proofs.Report.merge.Goals.{After-is_report_fit-2}

both_are : (d : After-is_report_fit-2)
    → (d.is_report_fit.result && d.is_report_fit-2.result)
    ≡ (report_fit_lem d.args.self && report_fit_lem d.args.other)
both_are d = rw (d.is_report_fit.ensures, d.is_report_fit-2.ensures)

pub returns-then-not-is_report_fit : goal.returns-then-not-is_report_fit
returns-then-not-is_report_fit c = merged_unfit _ _ (sym (both_are c.before) ∙ c.if-not-is_report_fit.true)

pub join-requires : goal.join-requires
join-requires c = fit_both _ _ (sym (both_are c.before) ∙ c.if-not-is_report_fit.false)

pub returns : goal.returns
returns c = merged_fit _ _ c.join.result (sym (both_are c.before.before) ∙ c.if-not-is_report_fit.false) c.join.ensures

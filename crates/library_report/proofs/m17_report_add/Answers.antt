-- `m17_report_add` meets its contract. Assumes nothing.
use mathlib.Core.Path.{◌≡◌, sym, ◌∙◌}
use mathlib.Core.Bool.{true}
use Rattle.shaping.specs.Rate.{rate_fit}
use Rattle.library_report.specs.Memory.{memory_at}
use Rattle.library_report.proofs.MemoryCases.{no_rate, no_report_lem, add_settles}
use Rattle.library_report.proofs.m17_report_add.Goals as goal
use Rattle.library_report.proofs.m17_report_add.Goals.{Else-not-is_rate}

-- the rate is one of the two
rate_fits : (c : Else-not-is_rate) → rate_fit c.args.rate ≡ true
rate_fits c = sym c.is_rate.ensures ∙ c.if-not-is_rate.false

pub returns-then-not-is_rate : goal.returns-then-not-is_rate
returns-then-not-is_rate c = no_rate _ _ _ (sym c.is_rate.ensures ∙ c.if-not-is_rate.true)

pub returns-then-not-is_report : goal.returns-then-not-is_report
returns-then-not-is_report c =
    no_report_lem _ _ _ (rate_fits c.before.before) (sym c.is_report.ensures ∙ c.if-not-is_report.true)

pub returns : goal.returns
returns c =
    let a = c.args in
    add_settles (memory_at a.numbers.now a.gains.now) a.rate a.recording.now (rate_fits c.before.before.before.before.before.before.before) (sym c.is_report.ensures ∙ c.if-not-is_report.false) c.add-after.result
    (rw c.report_in-report.ensures at c.add-after.ensures) _ _ c.settle.ensures

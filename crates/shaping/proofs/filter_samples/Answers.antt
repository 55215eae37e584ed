-- `shaping::filter_samples` meets its contract: each way is the sum of a part, by its table. Assumes nothing.
use mathlib.Core.Path.{ap, ◌∙◌}
use native.Mathlib.Omega.{arith}
use lib.ListN.{length}
use Rattle.shaping.proofs.Table.{taps_number, even_taps_number}
use Rattle.shaping.proofs.RateFacts.{table_48, table_other}
use Rattle.shaping.proofs.Dot.{sum_of_part}
use Rattle.shaping.proofs.filter_samples.Goals as goal

pub returns-then-p-eq10 : goal.returns-then-p-eq10
returns-then-p-eq10 c =
    let t = c.rrc_48k-table in
    let a = c.args in
    sum_of_part 81 a.window.now a.oldest (t.ensures ∙ table_48 a.p (omega arith)) (ap length t.ensures ∙ taps_number) c.sum_samples.ensures

pub returns-else-p-eq10 : goal.returns-else-p-eq10
returns-else-p-eq10 c =
    let t = c.rrc_24k-table in
    let a = c.args in
    sum_of_part 41 a.window.now a.oldest (t.ensures ∙ table_other a.p (λ e. omega arith)) (ap length t.ensures ∙ even_taps_number) c.sum_samples-else-p-eq10.ensures

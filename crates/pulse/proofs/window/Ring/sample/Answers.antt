-- `sample` meets its contract: one law for both tables. Assumes nothing.
use mathlib.Core.Path.{◌≡◌, sym, ◌∙◌}
use native.Mathlib.Omega.{arith}
use mir.Syntax.{w16}
use mir.ValLaws.{to_z-of_z}
use Rattle.shaping.specs.Rate.{rate_at}
use Rattle.shaping.proofs.RateFacts.{table_48, table_24}
use Rattle.pulse.proofs.Tables.{table_sample}
use Rattle.pulse.proofs.window.Ring.sample.Goals as goal
use Rattle.pulse.proofs.window.Ring.sample.Goals.{After-rrc_48k-table, After-rrc_24k-table}

own_48 : (c : After-rrc_48k-table) → c.rrc_48k-table.result ≡ (rate_at c.args.self.now.p).taps
own_48 c = c.rrc_48k-table.ensures ∙ table_48 c.args.self.now.p (sym c.samples.ensures ∙ c.if-samples-eq10.true)

own_24 : (c : After-rrc_24k-table) → c.rrc_24k-table.result ≡ (rate_at c.args.self.now.p).taps
own_24 c = c.rrc_24k-table.ensures ∙ table_24 c.args.self.now.p (omega arith) (λ e. c.if-samples-eq10.false (c.samples.ensures ∙ e))

pub returns-then-samples-eq10 : goal.returns-then-samples-eq10
returns-then-samples-eq10 c =
    let ring = c.args.self.now in
    to_z-of_z w16 c.cut_to_i16.result (record { sfits = c.cut_to_i16.type_inv })
    ∙ c.cut_to_i16.ensures
    ∙ table_sample ring.p (omega arith) c.rrc_48k-table.result (own_48 c.before.before.before) ring.values ring.cursor _ c.tap_sum.ensures

pub returns-else-samples-eq10 : goal.returns-else-samples-eq10
returns-else-samples-eq10 c =
    let ring = c.args.self.now in
    to_z-of_z w16 c.cut_to_i16-else-samples-eq10.result (record { sfits = c.cut_to_i16-else-samples-eq10.type_inv })
    ∙ c.cut_to_i16-else-samples-eq10.ensures
    ∙ table_sample ring.p (omega arith) c.rrc_24k-table.result (own_24 c.before.before.before) ring.values ring.cursor _ c.tap_sum-else-samples-eq10.ensures

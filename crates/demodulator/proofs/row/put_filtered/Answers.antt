-- `put_filtered` meets its contract: each rate by its own table. Assumes nothing.
use mathlib.Core.Path.{◌∙◌}
use native.Mathlib.Omega.{arith}
use Rattle.shaping.proofs.RateFacts.{table_48, table_24}
use Rattle.demodulator.proofs.row.put_filtered.Goals as goal

pub put_by_table-requires : goal.put_by_table-requires
put_by_table-requires c =
    (c.rrc_48k-table.ensures ∙ table_48 c.args.p (omega arith), c.requires.0, c.requires.1, c.requires.2)

pub put_by_table-requires-else-samples-eq10 : goal.put_by_table-requires-else-samples-eq10
put_by_table-requires-else-samples-eq10 c =
    (c.rrc_24k-table.ensures ∙ table_24 c.args.p (omega arith) (λ e. c.if-samples-eq10.false (c.samples.ensures ∙ e)), c.requires.0, c.requires.1, c.requires.2)

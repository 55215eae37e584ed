-- `block_sums` meets its contract. Assumes nothing.
use mathlib.Core.Path.{sym, ap, ◌∙◌}
use mathlib.Core.List.{List}
use lib.Ieee.{Float}
use native.Mathlib.Omega.{arith}
use Rattle.bulk.specs.Sums.{sums_of}
use Rattle.demodulator.proofs.RowLaid.{still_sums, whole_sums}
use Rattle.demodulator.proofs.row.block_sums.Goals as goal

pub returns-then-is_still : goal.returns-then-is_still
returns-then-is_still c =
    still_sums c.args.p (omega arith) c.args.row.now c.requires.1 (sym c.is_still.ensures ∙ c.if-is_still.true)

pub returns : goal.returns
returns c =
    c.tap_sums.ensures ∙ ap (λ (t : List Float). sums_of t c.args.row.now) c.requires.0 ∙ whole_sums c.args.p (omega arith) c.args.row.now c.requires.1

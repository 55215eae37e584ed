-- `numbers_of` meets its contract: the first places are written. Assumes nothing.
use mathlib.Core.Path.{◌≡◌}
use lib.ListN.{length, take}
use Rattle.numbers.specs.Firsts.{firsts}
use Rattle.library_report.specs.Layout.{number_at_lem}
use Rattle.library_report.proofs.numbers_of.Given as goal

abbrev pub invariant-loop-place : goal.invariant-loop-place
invariant-loop-place l =
    (length l.number-items ≡ 52) × (take l.place l.number-items ≡ firsts (number_at_lem l.first.totals l.second.totals l.held) l.place)

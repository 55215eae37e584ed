-- `reading::numbers` meets its contract: after i turns the first i places are written. Assumes nothing.
use mathlib.Core.Path.{◌≡◌}
use Rattle.numbers.specs.Firsts.{written}
use Rattle.wire.specs.Bytes.{number_at_lem}
use Rattle.wire.proofs.reading.numbers.Given as goal

abbrev pub invariant-loop-i : goal.invariant-loop-i
invariant-loop-i l = l.to ≡ written (number_at_lem l.from) l.i l.initial.to

-- `reading::samples` meets its contract: after i turns the first i places are written. Assumes nothing.
use mathlib.Core.Path.{◌≡◌}
use Rattle.numbers.specs.Firsts.{written}
use Rattle.wire.specs.Bytes.{sample_at}
use Rattle.wire.proofs.reading.samples.Given as goal

abbrev pub invariant-loop-i : goal.invariant-loop-i
invariant-loop-i l = l.to ≡ written (sample_at l.from) l.i l.initial.to

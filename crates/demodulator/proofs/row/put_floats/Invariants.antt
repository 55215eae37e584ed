-- `put_floats` meets its contract: after i turns the first i places are written. Assumes nothing.
use mathlib.Core.Path.{◌≡◌}
use Rattle.numbers.specs.Firsts.{written}
use Rattle.shaping.specs.Sum.{sample_in}
use Rattle.demodulator.proofs.row.put_floats.Given as goal

abbrev pub invariant-loop-i : goal.invariant-loop-i
invariant-loop-i l = l.room ≡ written (sample_in l.samples) l.i l.initial.room

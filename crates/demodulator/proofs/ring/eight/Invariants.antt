-- `eight` meets its contract: after i turns the first i places are written. Assumes nothing.
use mathlib.Core.Path.{◌≡◌}
use Rattle.numbers.specs.Firsts.{written}
use Rattle.demodulator.specs.Spans.{eight}
use Rattle.demodulator.specs.Record.{ring_back}
use Rattle.demodulator.proofs.ring.eight.Given as goal

abbrev pub invariant-loop-i : goal.invariant-loop-i
invariant-loop-i l = l.value-items ≡ written (eight l.p (ring_back l.p l.ring l.cursor)) l.i l.initial.value-items

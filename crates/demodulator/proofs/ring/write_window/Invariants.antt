-- `write_window` meets its contract: after i turns the first i places are written. Assumes nothing.
use mathlib.Core.Path.{◌≡◌}
use Rattle.numbers.specs.Firsts.{written}
use Rattle.demodulator.specs.Spans.{symbol_at}
use Rattle.demodulator.specs.Record.{ring_back}
use Rattle.demodulator.proofs.ring.write_window.Given as goal

abbrev pub invariant-loop-i : goal.invariant-loop-i
invariant-loop-i l = l.symbol-items ≡ written (symbol_at l.p l.shown (ring_back l.p l.ring l.cursor)) l.i l.initial.symbol-items

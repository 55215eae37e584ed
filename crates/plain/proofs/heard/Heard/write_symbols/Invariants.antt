-- `write_symbols` meets its contract: after i turns the first i places are written. Assumes nothing.
use mathlib.Core.Path.{◌≡◌}
use lib.ListN.{length, take}
use Rattle.numbers.specs.Firsts.{firsts}
use Rattle.demodulator.specs.Spans.{symbol_at}
use Rattle.plain.specs.Values.{from_whole}
use Rattle.plain.proofs.heard.Heard.write_symbols.Given as goal

abbrev pub invariant-loop-i : goal.invariant-loop-i
invariant-loop-i l = (length l.symbol-items ≡ 192) × (take l.i l.symbol-items ≡ firsts (symbol_at l.self.p l.shown (from_whole l.self.table.now l.self.p l.self.recording.now l.sample)) l.i)

-- `eight_values` meets its contract: after i turns the first i places are written. Assumes nothing.
use mathlib.Core.Path.{◌≡◌}
use lib.ListN.{length, take}
use Rattle.numbers.specs.Firsts.{firsts}
use Rattle.demodulator.specs.Spans.{eight}
use Rattle.plain.specs.Values.{from_whole}
use Rattle.plain.proofs.heard.Heard.eight_values.Given as goal

abbrev pub invariant-loop-i : goal.invariant-loop-i
invariant-loop-i l = (length l.value-items ≡ 8) × (take l.i l.value-items ≡ firsts (eight l.self.p (from_whole l.self.table.now l.self.p l.self.recording.now l.k)) l.i)

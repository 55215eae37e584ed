-- `put_recent` meets its contract: after i turns the first i places are written. Assumes nothing.
use mathlib.Core.Path.{◌≡◌}
use mathlib.Core.List.{List}
use Prim.Native.Nat.{ℕ, ◌*◌, ◌-◌}
use lib.Ieee.{Float}
use Rattle.numbers.specs.Firsts.{written}
use Rattle.demodulator.specs.Record.{ring_back}
use Rattle.demodulator.proofs.row.put_recent.Given as goal

abbrev pub recent : ℕ → List Float → ℕ → ℕ → Float
recent p ring cursor i = ring_back p ring cursor (7 * p - 1 - i)

abbrev pub invariant-loop-i : goal.invariant-loop-i
invariant-loop-i l = l.value-items ≡ written (recent l.p l.rx_win l.rx_cursor) l.i l.initial.value-items

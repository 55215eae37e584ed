-- `pulse_row` meets its contract: after i turns the first i places are written. Assumes nothing.
use mathlib.Core.Path.{◌≡◌}
use mathlib.Core.List.{List}
use Prim.Native.Nat.{ℕ, ◌+◌}
use lib.Ieee.{Float}
use Rattle.numbers.specs.Firsts.{written}
use Rattle.pulse.specs.Pulse.{line_at}
use Rattle.pulse.specs.Phases.{pulse_no}
use Rattle.pulse.proofs.window.Ring.pulse_row.Given as goal

abbrev pub row_from : ℕ → List Float → ℕ → List Float → ℕ → ℕ → Float
row_from p window cursor symbols first i = pulse_no p (line_at window cursor) symbols (first + i)

abbrev pub invariant-loop-i : goal.invariant-loop-i
invariant-loop-i l = l.pulse-items ≡ written (row_from l.self.p l.self.values l.self.cursor l.symbols l.first) l.i l.initial.pulse-items

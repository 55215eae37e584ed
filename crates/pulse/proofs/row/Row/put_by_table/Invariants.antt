-- `put_by_table` meets its contract: after j turns the first j phases are written. Assumes nothing.
use mathlib.Core.Path.{◌≡◌}
use Prim.Native.Nat.{◌*◌}
use Rattle.numbers.specs.Firsts.{written}
use Rattle.shaping.specs.Rate.{rate_at}
use Rattle.pulse.specs.Phases.{phase_cut}
use Rattle.pulse.proofs.row.Row.put_by_table.Given as goal

abbrev pub invariant-loop-j : goal.invariant-loop-j
invariant-loop-j l = l.room ≡ written (phase_cut (rate_at l.self.p) l.self.pulses) (48 * l.j) l.initial.room

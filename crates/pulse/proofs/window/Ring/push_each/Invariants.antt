-- `push_each` meets its contract. The loop's invariant: the symbols so far have been sent, p samples each. Assumes nothing.
use mathlib.Core.Path.{◌≡◌}
use Prim.Native.Nat.{◌*◌}
use Rattle.shaping.specs.Rate.{rate_at}
use Rattle.pulse.specs.Pulse.{pulses, listed, line_at, Sent}
use Rattle.pulse.proofs.window.Ring.push_each.Given as goal

abbrev pub invariant-loop-i : goal.invariant-loop-i
invariant-loop-i l =
    (l.self.p ≡ l.fn.self.p) × Sent (rate_at l.fn.self.p) (pulses l.fn.self.p (listed l.symbols)) (l.fn.self.p * l.i) (line_at l.fn.self.values l.fn.self.cursor) l.initial.room (line_at l.self.values l.self.cursor) l.room

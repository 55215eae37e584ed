-- `enter_symbol` meets its contract. The loop's invariant: the values so far have
-- entered, and the next is what the symbol's pulse has there. Assumes nothing.
use mathlib.Core.Path.{◌≡◌}
use Prim.Native.Nat.{ℕ, ◌<◌}
use lib.Ieee.{Float}
use Rattle.pulse.specs.Pulse.{pulses, after, line_at}
use Rattle.pulse.proofs.window.Ring.enter_symbol.Given as goal

abbrev pub entering : ℕ → Float → ℕ → Float
entering p symbol = pulses p (λ (_ : ℕ). symbol)

abbrev pub invariant-loop : goal.invariant-loop
invariant-loop l =
    (l.self.p ≡ l.fn.self.p) × (l.counter < l.fn.self.p → l.value ≡ entering l.fn.self.p l.symbol l.counter)
    × (line_at l.self.values l.self.cursor ≡ after l.fn.self.p (entering l.fn.self.p l.symbol) l.counter (line_at l.fn.self.values l.fn.self.cursor))

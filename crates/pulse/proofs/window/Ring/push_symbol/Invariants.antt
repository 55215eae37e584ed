-- `push_symbol` meets its contract. The loop's invariant: the values so far have been sent, and the next is what the symbol's pulse has there. Assumes nothing.
use mathlib.Core.Path.{◌≡◌}
use Prim.Native.Nat.{ℕ, ◌<◌}
use lib.Ieee.{Float}
use Rattle.shaping.specs.Rate.{rate_at}
use Rattle.pulse.specs.Pulse.{pulses, line_at, Sent}
use Rattle.pulse.proofs.window.Ring.push_symbol.Given as goal

abbrev entering : ℕ → Float → ℕ → Float
entering p symbol = pulses p (λ (_ : ℕ). symbol)

abbrev pub invariant-loop-place : goal.invariant-loop-place
invariant-loop-place l =
    (l.self.p ≡ l.fn.self.p) × (l.place-index < l.fn.self.p → l.value ≡ entering l.fn.self.p l.symbol l.place-index)
    × Sent (rate_at l.fn.self.p) (entering l.fn.self.p l.symbol) l.place-index (line_at l.fn.self.values l.fn.self.cursor) l.initial.place-items (line_at l.self.values l.self.cursor) l.place-items

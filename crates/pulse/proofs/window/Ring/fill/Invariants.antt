-- `fill` meets its contract. The loop's invariant: the symbols from the first
-- of the last nine on have entered. Assumes nothing.
use mathlib.Core.Path.{◌≡◌}
use mathlib.Core.List.{List}
use Prim.Native.Nat.{ℕ, ◌+◌, ◌*◌, ◌%◌}
use lib.Ieee.{Float}
use Rattle.shaping.specs.Rate.{tap_count}
use Rattle.pulse.specs.Pulse.{pulses, listed, after, line_at}
use Rattle.pulse.proofs.window.Ring.fill.Given as goal

abbrev pub rest : ℕ → List Float → ℕ → ℕ → Float
rest p symbols passed j = pulses p (listed symbols) (p * passed + j)

abbrev pub invariant-loop-symbol : goal.invariant-loop-symbol
invariant-loop-symbol l =
    (l.self.p ≡ l.fn.self.p) × (line_at l.self.values l.self.cursor ≡ after l.fn.self.p (rest l.fn.self.p l.symbols l.passed) (l.fn.self.p * l.symbol-index) (line_at l.fn.self.values ((l.fn.self.cursor + l.fn.self.p * l.passed) % tap_count l.fn.self.p)))

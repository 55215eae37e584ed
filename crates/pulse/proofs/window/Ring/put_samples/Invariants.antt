-- `put_samples` meets its contract: after s symbols their samples are written. Assumes nothing.
use mathlib.Core.Path.{◌≡◌}
use mathlib.Core.List.{List}
use Prim.Native.Nat.{ℕ, ◌*◌, ◌≤◌}
use lib.IntN.{ℤ}
use lib.ListN.{length}
use lib.Ieee.{Float}
use Rattle.numbers.specs.Firsts.{written}
use Rattle.shaping.specs.Rate.{rate_at}
use Rattle.pulse.specs.Pulse.{pulses, listed, sample_at, line_at}
use Rattle.pulse.proofs.window.Ring.put_samples.Given as goal

abbrev pub sampled : ℕ → List Float → ℕ → List Float → ℕ → ℤ
sampled p window cursor symbols = sample_at (rate_at p) (pulses p (listed symbols)) (line_at window cursor)

abbrev pub invariant-loop-s : goal.invariant-loop-s
invariant-loop-s l = (l.s ≤ length l.symbols) × (l.room ≡ written (sampled l.self.p l.self.values l.self.cursor l.symbols) (l.self.p * l.s) l.initial.room)

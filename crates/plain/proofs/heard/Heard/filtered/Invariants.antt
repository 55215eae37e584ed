-- `filtered` meets its contract: the sum so far is that of the products passed. Assumes nothing.
use mathlib.Core.Path.{◌≡◌}
use Prim.Native.Nat.{ℕ, ◌+◌, ◌-◌, ◌*◌}
use lib.Ieee.{binary32, of_int}
use Rattle.shaping.proofs.Dot.{so_far}
use Rattle.demodulator_run.specs.Filter.{sample_no_lem}
use Rattle.plain.proofs.heard.Heard.filtered.Given as goal

abbrev pub invariant-loop-tap : goal.invariant-loop-tap
invariant-loop-tap l = l.sum ≡ so_far l.self.table.now (λ (j : ℕ). of_int binary32 (sample_no_lem l.self.recording.now ((l.k + j) - 8 * l.self.p))) l.tap

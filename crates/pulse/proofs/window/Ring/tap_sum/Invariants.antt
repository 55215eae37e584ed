-- `tap_sum` meets its contract. The loop's invariant: the sum so far is that of the products passed. Assumes nothing.
use mathlib.Core.Path.{◌≡◌}
use Prim.Native.Nat.{◌+◌, ◌%◌, ◌<◌}
use lib.ListN.{length}
use Rattle.shaping.specs.Sum.{in_ring}
use Rattle.shaping.proofs.Dot.{so_far}
use Rattle.pulse.proofs.window.Ring.tap_sum.Given as goal

abbrev pub invariant-loop-tap : goal.invariant-loop-tap
invariant-loop-tap l = (l.at < length l.table) × (l.at ≡ (l.self.cursor + l.tap-index) % length l.table) × (l.out ≡ so_far l.table (in_ring (length l.table) l.self.values l.self.cursor) l.tap-index)

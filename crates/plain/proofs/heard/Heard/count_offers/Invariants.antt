-- `count_offers` meets its contract: one offer for each reply that is read so far. Assumes nothing.
use mathlib.Core.Path.{◌≡◌}
use Prim.Native.Nat.{◌≤◌}
use lib.ListN.{length}
use Rattle.shaping.specs.Rate.{tap_count}
use Rattle.plain.proofs.ListProgress.{Progress}
use Rattle.plain.proofs.heard.Heard.count_offers.Given as goal

abbrev pub invariant-loop-count : goal.invariant-loop-count
invariant-loop-count l =
    (size : length l.self.table.now ≡ tap_count l.self.p) (short : length l.self.recording.now ≤ 65536) → Progress l.self.table.now l.self.p size l.self.recording.now short l.replies l.from l.count

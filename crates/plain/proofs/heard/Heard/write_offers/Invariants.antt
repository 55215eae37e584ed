-- `write_offers` meets its contract: the list so far is at the front of the rooms. Assumes nothing.
use mathlib.Core.Path.{◌≡◌}
use Prim.Native.Nat.{◌≤◌}
use lib.ListN.{length}
use Rattle.shaping.specs.Rate.{tap_count}
use Rattle.plain.proofs.RoomLaws.{Writing}
use Rattle.plain.proofs.heard.Heard.write_offers.Given as goal

abbrev pub invariant-loop-count : goal.invariant-loop-count
invariant-loop-count l =
    (l.count ≤ length l.replies) × (length l.numbers ≡ length l.initial.numbers) × (length l.symbols ≡ length l.initial.symbols)
    × ((size : length l.self.table.now ≡ tap_count l.self.p) (short : length l.self.recording.now ≤ 65536) → Writing l.self.table.now l.self.p size l.self.recording.now short l.replies l.initial.numbers l.initial.symbols l.from l.count l.numbers l.symbols)

-- `put_by_table` meets its contract: after some turns the sums of whole blocks are written. Assumes nothing.
use mathlib.Core.Path.{◌≡◌}
use Prim.Native.Nat.{◌%◌, ◌≤◌}
use lib.ListN.{length}
use Rattle.numbers.specs.Firsts.{written}
use Rattle.shaping.specs.Rate.{rate_at}
use Rattle.bulk.specs.Sums.{sum_from}
use Rattle.demodulator.proofs.row.put_by_table.Given as goal

abbrev pub invariant-loop-k : goal.invariant-loop-k
invariant-loop-k l = (l.k ≤ 624) × (l.k % 48 ≡ 0) × (length l.room ≡ length l.initial.room) × (l.room ≡ written (sum_from (rate_at l.p).taps l.straight) l.k l.initial.room)

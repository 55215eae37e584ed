-- `tap_sums` meets its contract: after i turns each sum has its first i products, and within a turn the first k sums have one more. Assumes
-- nothing.
use mathlib.Core.Path.{◌≡◌, refl, sym}
use Prim.Native.Nat.{◌-◌, ◌≤◌, ◌<◌}
use native.Mathlib.Omega.{arith}
use borrow.Author.Tests.{lt-ltb, le-ltb}
use lib.ListN.{length, get_or}
use lib.Ieee.{nan}
use Rattle.numbers.specs.Sum.{nought}
use Rattle.numbers.proofs.Lanes.{lanes_start, lanes_step, lanes_turn, lanes_sums}
use Rattle.shaping.specs.Sum.{dot}
use Rattle.shaping.proofs.Dot.{inside}
use Rattle.bulk.specs.Sums.{sums_of}
use Rattle.bulk.proofs.tap_sums.Goals as goal

pub returns-then-saturating_sub-table : goal.returns-then-saturating_sub-table
unfolding sums_of
returns-then-saturating_sub-table c =
    let a = c.args in
    let short : length a.row.now - 47 < length a.table.now = rw (sym c.saturating_sub.ensures) c.if-saturating_sub-table.true in
    rw (lt-ltb _ _ short)

pub loop-i-init : goal.loop-i-init
loop-i-init c = lanes_start 48 _

pub loop-k-preserved : goal.loop-k-preserved
loop-k-preserved c =
    let a = c.args in
    let i = c.loop-i.i in
    let tap : get_or a.table.now i nan ≡ get_or a.table.now i nought = inside a.table.now i nan nought (omega arith) in
    lanes_step c.loop-k.invariant c.loop-k-test.true (rw tap)

pub loop-i-preserved : goal.loop-i-preserved
loop-i-preserved c = lanes_turn c.loop-k.invariant c.loop-k-test.false

pub returns : goal.returns
unfolding sums_of dot
returns c =
    let a = c.args in
    let long : length a.table.now ≤ length a.row.now - 47 = rw (sym c.saturating_sub.ensures) c.if-saturating_sub-table.false in
    let done : c.loop-i.i ≡ length a.table.now = omega arith in
    rw (le-ltb _ _ long) (rw done at (lanes_sums c.loop-i.invariant refl))

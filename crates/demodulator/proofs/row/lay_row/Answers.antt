-- `lay_row` meets its contract. Assumes nothing.
use mathlib.Core.Path.{◌≡◌}
use Prim.Native.Nat.{◌*◌, ◌-◌, ◌≤◌}
use native.Mathlib.Omega.{arith}
use borrow.Rule.Slice.PartMut.{put_mid}
use lib.ListN.{length}
use Rattle.numbers.proofs.Tail.{tail_lent, tail_back}
use Rattle.demodulator.proofs.RowLaid.{rows_laid}
use borrow.Author.Rules.{rules}
use Rattle.demodulator.proofs.row.lay_row.Goals as goal

pub returns : goal.returns
returns c =
    let a = c.args in
    let straight₁ = c.lay_side_by_side.new.room in
    let row₁ = c.put_recent.new.room in
    let tail = c.put_filtered.new.room in
    let within : 7 * a.p ≤ length row₁ = search rules in
    let whole : length (put_mid (7 * a.p) (length row₁ - 7 * a.p) row₁ tail) ≡ 742 = search rules in
    rw c.samples-before.ensures (rows_laid a.p (omega arith) a.filter_win.now a.rx_win.now a.places a.samples.now a.straight.now straight₁ a.row.now row₁ tail c.lay_side_by_side.ensures c.put_recent.ensures
    (rw (c.samples-before.ensures, tail_lent row₁ (7 * a.p)) at c.put_filtered.ensures) _ (tail_back row₁ (7 * a.p) tail within) whole)

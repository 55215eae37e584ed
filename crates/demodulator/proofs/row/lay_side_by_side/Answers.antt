-- `lay_side_by_side` meets its contract. Assumes nothing.
use mathlib.Core.Path.{◌≡◌, refl}
use Prim.Native.Nat.{ℕ, ◌+◌, ◌*◌, ◌-◌, ◌≤◌}
use native.Mathlib.Omega.{arith}
use lib.ListN.{length, take, drop}
use Rattle.numbers.proofs.Tail.{tail_lent, tail_back}
use Rattle.demodulator.proofs.RowLaid.{laid_side_by_side}
use borrow.Author.Rules.{rules}
use Rattle.demodulator.proofs.row.lay_side_by_side.Goals as goal
use Rattle.demodulator.proofs.row.lay_side_by_side.Goals.{After-put_floats-arg-2-1}

-- the part of the window has all its places
wide : (c : After-put_floats-arg-2-1) → let a = c.args in let count = 8 * c.samples-count.result in
    length (take (a.filter_cursor + 1 + count - (a.filter_cursor + 1)) (drop (a.filter_cursor + 1) a.filter_win.now)) ≡ count
wide c = search rules

pub returns : goal.returns
returns c =
    let a = c.args in
    let room₁ = c.put_floats.new.room in
    let tail = c.put_floats-2.new.room in
    let within : 8 * a.p ≤ length room₁ = search rules in
    let w : ℕ = a.filter_cursor + 1 + 8 * a.p - (a.filter_cursor + 1) in
    let own = c.samples-count.ensures in
    rw (own, tail_back room₁ (8 * a.p) tail within)
    (laid_side_by_side a.p a.filter_win.now a.filter_cursor a.samples.now (take w (drop (a.filter_cursor + 1) a.filter_win.now)) w refl (omega arith) a.room.now room₁ tail
    (rw own at (wide c.before.before.before.before.before.before.before.before)) (rw own at c.put_floats.ensures) (rw (own, tail_lent room₁ (8 * a.p)) at c.put_floats-2.ensures))

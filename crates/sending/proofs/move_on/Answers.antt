-- `move_on` meets its contract: each return is one case of the definition. Assumes nothing.
use mathlib.Core.Path.{◌≡◌}
use Prim.Native.Nat.{◌<◌}
use borrow.Author.Rules.{rules}
use lib.ListN.{length}
use Rattle.sending.proofs.Turns.{move_none, move_bad, move_on_lem}
use Rattle.sending.proofs.move_on.Goals as goal

pub returns-then-is_empty : goal.returns-then-is_empty
returns-then-is_empty c =
    let a = c.args in
    let none : length a.bytes.now ≡ 0 = search rules in
    move_none a.s a.bytes.now c.close.result none c.close.ensures

pub returns-then-after : goal.returns-then-after
returns-then-after c =
    let a = c.args in
    let some : 0 < length a.bytes.now = search rules in
    move_bad a.s a.bytes.now c.close-then-after.result some c.take-after.result c.take-after.ensures c.if-after.true c.close-then-after.ensures

pub returns : goal.returns
returns c =
    let a = c.args in
    let some : 0 < length a.bytes.now = search rules in
    move_on_lem a.s a.bytes.now c.take-after.result some c.take-after.result c.take-after.ensures c.if-after.false

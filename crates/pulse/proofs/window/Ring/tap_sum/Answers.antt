-- `tap_sum` meets its contract. The loop's invariant: the sum so far is that of the products passed. Assumes nothing.
use mathlib.Core.Path.{refl, sym}
use Prim.Native.Nat.{◌<◌}
use native.Mathlib.Nat.{add-zero, mod-eq_of_lt}
use native.Mathlib.Omega.{arith}
use borrow.Author.Rules.{rules}
use lib.ListN.{length}
use Rattle.shaping.specs.Sum.{in_ring}
use Rattle.shaping.proofs.Dot.{begun, step, ended}
use Rattle.pulse.proofs.Places.{next_inside, next_place}
use Rattle.pulse.proofs.window.Ring.tap_sum.Goals as goal

pub loop-tap-init : goal.loop-tap-init
loop-tap-init c =
    let a = c.args in
    let ring = a.self.now in
    let inside : ring.cursor < length a.table.now = omega arith in
    (inside, rw (add-zero ring.cursor) (sym (mod-eq_of_lt inside)), begun a.table.now _)

pub loop-tap-preserved : goal.loop-tap-preserved
loop-tap-preserved c =
    let a = c.args in
    let ring = a.self.now in
    let i = c.loop-tap.tap-index in
    let n = length a.table.now in
    let some : 0 < n = search rules in (
      next_inside n c.loop-tap.at _ some c.place_after-at.ensures,
      next_place n c.loop-tap.at _ some c.place_after-at.ensures ring.cursor i c.loop-tap.invariant.1,
      step a.table.now (in_ring n ring.values ring.cursor) _ _ _ i refl (search rules) (rw c.loop-tap.invariant.1) c.loop-tap.invariant.2,
    )

pub returns : goal.returns
returns c = ended c.args.table.now _ _ c.loop-tap.tap-index (omega arith) c.loop-tap.invariant.2

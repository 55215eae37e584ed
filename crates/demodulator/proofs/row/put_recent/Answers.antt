-- `put_recent` meets its contract: after i turns the first i places are written. Assumes nothing.
use mathlib.Core.Path.{◌≡◌, refl, ap, ◌∙◌}
use mathlib.Core.List.{List, ◌++◌}
use Prim.Native.Nat.{◌*◌}
use native.Mathlib.Numerals.{add-one}
use native.Mathlib.Omega.{arith}
use lib.ListN.{length, take, drop}
use lib.Ieee.{Float, nan}
use Rattle.std.proofs.lemmas.List.{length-take-le}
use Rattle.numbers.specs.Firsts.{firsts}
use Rattle.numbers.proofs.Firsts.{written_step}
use Rattle.demodulator.proofs.WrittenPart.{written_part}
use Rattle.demodulator.proofs.row.put_recent.Invariants.{recent}
use Rattle.demodulator.proofs.row.put_recent.Goals as goal

pub loop-i-init : goal.loop-i-init
unfolding firsts
loop-i-init c = refl

pub loop-i-preserved : goal.loop-i-preserved
loop-i-preserved c =
    let a = c.args in
    let i = c.loop-i.i in
    let own = c.samples-count.ensures in
    rw (add-one i, c.value_back.ensures, c.loop-i.invariant, own) (written_step (recent a.p a.rx_win.now a.rx_cursor) i (take (7 * a.p) a.room.now) nan (rw own at c.loop-i-test.true))

pub returns : goal.returns
returns c =
    let l = c.loop-i in
    let a = c.args in
    let own = c.samples-count.ensures in
    let long : length (take (7 * c.samples-count.result) a.room.now) ≡ 7 * c.samples-count.result = length-take-le _ _ (omega arith) in
    let done : l.i ≡ 7 * a.p = omega (arith, long) in
    rw own (ap (λ (q : List Float). q ++ drop (7 * a.p) a.room.now) (rw (own, done) at l.invariant) ∙ written_part (recent a.p a.rx_win.now a.rx_cursor) (7 * a.p) a.room.now c.requires.1)

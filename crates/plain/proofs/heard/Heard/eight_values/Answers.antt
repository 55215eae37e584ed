-- `eight_values` meets its contract: after i turns the first i places are written. Assumes nothing.
use mathlib.Core.Path.{◌≡◌, refl, sym, ◌∙◌}
use Prim.Native.Nat.{ℕ}
use native.Mathlib.Numerals.{add-one}
use native.Mathlib.Omega.{arith}
use lib.Ieee.{Float}
use lib.ListN.{length-set}
use lib.Seq.{take_all}
use Rattle.numbers.specs.Firsts.{firsts}
use Rattle.numbers.proofs.Firsts.{prefix_step}
use Rattle.demodulator.specs.Spans.{eight}
use Rattle.plain.specs.Values.{from_whole}
use Rattle.plain.proofs.heard.Heard.eight_values.Goals as goal

pub loop-i-init : goal.loop-i-init
unfolding firsts
loop-i-init c = (refl, refl)

pub loop-i-preserved : goal.loop-i-preserved
loop-i-preserved c =
    let l = c.loop-i in
    let a = c.args in
    let v : ℕ → Float = eight a.self.now.p (from_whole a.self.now.table.now a.self.now.p a.self.now.recording.now a.k) in
    (simp length-set l.invariant.0, rw (c.symbols_before.ensures, add-one l.i) (prefix_step v l.i l.value-items (omega arith) l.invariant.1))

pub returns : goal.returns
returns c =
    let l = c.loop-i in
    let done : l.i ≡ 8 = omega arith in
    sym (take_all l.i l.value-items (omega arith)) ∙ l.invariant.1 ∙ rw done

-- `beside::meet_padding` meets its contract: what is left of the padding is beside what is left of the stretch. Assumes nothing.
use mathlib.Core.Path.{◌≡◌, sym, ap, ◌∙◌}
use Prim.Native.Nat.{suc, ◌+◌, ◌<◌}
use native.Mathlib.Omega.{arith}
use borrow.Author.Rules.{rules}
use mir.Syntax.{w16}
use mir.Val.{of_z, to_z, SFits}
use mir.Facts.{to_z-of_z}
use lib.IntN.{pos}
use lib.ListN.{length, get_or, take, replicate, length-take, length-replicate, get_or-replicate}
use lib.Seq.{get_or-take}
use Rattle.supplier.proofs.Front.{front_done, front_short, front_next, front_differs}
use Rattle.supplier.proofs.beside.meet_padding.Goals as goal

pub returns-then-sample-ne0 : goal.returns-then-sample-ne0
returns-then-sample-ne0 c =
    let l = c.loop-met in
    let a = c.args in
    let xs = a.samples.now in
    let begun = length-take c.min.result xs in
    let few : l.met < c.min.result = omega (arith, begun) in
    let more : l.met < a.padding = omega (arith, few, c.min.ensures) in
    let inside : l.met < length xs = omega (arith, few, c.min.ensures) in
    sym (l.invariant ∙ front_differs (l.met + 1) (replicate a.padding (pos 0)) xs l.met l.met (omega (arith, length-replicate a.padding (pos 0))) inside
    (λ e. c.if-sample-ne0.true (ap (of_z w16) (get_or-take c.min.result xs l.met (pos 0) few ∙ sym (sym (get_or-replicate a.padding l.met (pos 0) (pos 0) more) ∙ e)))))

pub loop-met-preserved : goal.loop-met-preserved
loop-met-preserved c =
    let l = c.loop-met in
    let a = c.args in
    let xs = a.samples.now in
    let begun = length-take c.min.result xs in
    let few : l.met < c.min.result = omega (arith, begun) in
    let more : l.met < a.padding = omega (arith, few, c.min.ensures) in
    let inside : l.met < length xs = omega (arith, few, c.min.ensures) in
    let x = get_or (take c.min.result xs) l.met (pos 0) in
    let fits : SFits w16 x = search rules in
    let here : get_or xs l.met (pos 0) ≡ pos 0 = sym (get_or-take c.min.result xs l.met (pos 0) few) ∙ sym (to_z-of_z {w = w16} {z = x} fits) ∙ ap (to_z w16) c.if-sample-ne0.false in
    let next : l.met + 1 ≡ suc l.met = omega arith in
    l.invariant ∙ front_next (l.met + 1) (replicate a.padding (pos 0)) xs l.met l.met _ _ _ (omega arith) next next (omega (arith, length-replicate a.padding (pos 0))) inside
    (get_or-replicate a.padding l.met (pos 0) (pos 0) more ∙ sym here)

pub returns-then-samples-padding : goal.returns-then-samples-padding
returns-then-samples-padding c =
    let l = c.loop-met in
    let a = c.args in
    let xs = a.samples.now in
    let begun = length-take c.min.result xs in
    let all : l.met ≡ length xs = omega (arith, begun, c.min.ensures) in
    sym (l.invariant ∙ front_short (l.met + 1) (replicate a.padding (pos 0)) xs l.met l.met (omega (arith, all, length-replicate a.padding (pos 0))) (omega (arith, all)))

pub returns : goal.returns
returns c =
    let l = c.loop-met in
    let a = c.args in
    let xs = a.samples.now in
    let begun = length-take c.min.result xs in
    let all : l.met ≡ a.padding = omega (arith, begun, c.min.ensures) in
    sym (l.invariant ∙ front_done (l.met + 1) (replicate a.padding (pos 0)) xs l.met l.met (omega (arith, all, length-replicate a.padding (pos 0))))

-- `beside::meet_part` meets its contract. Assumes nothing.
use mathlib.Core.Path.{◌≡◌, sym, ap, ◌∙◌}
use Prim.Native.Nat.{◌+◌, ◌≤◌, ◌<◌}
use native.Mathlib.Omega.{arith}
use borrow.Author.Rules.{rules}
use mir.Syntax.{w16}
use mir.Val.{of_z, to_z, SFits}
use mir.Facts.{to_z-of_z}
use lib.IntN.{pos}
use lib.ListN.{length, get_or, take}
use lib.Seq.{length-take-le, get_or-take}
use Rattle.supplier.proofs.Front.{front_done, front_short, front_next, front_differs}
use Rattle.supplier.proofs.beside.meet_part.Goals as goal

pub returns-in_default : goal.returns-in_default
returns-in_default c =
    let l = c.loop-i in
    let a = c.args in
    let few : length a.samples.now ≤ a.at + l.i = search rules in
    sym (l.invariant ∙ front_short (a.at + l.i + 1) (take a.count a.made.now) a.samples.now l.i (a.at + l.i) (omega arith) few)

pub returns-then-sample-own : goal.returns-then-sample-own
returns-then-sample-own c =
    let l = c.loop-i in
    let a = c.args in
    let ys = take a.count a.made.now in
    let xs = a.samples.now in
    let inside : a.at + l.i < length xs = search rules in
    let read : c.in-Some.sample.now ≡ get_or xs (a.at + l.i) (pos 0) = search rules in
    sym (l.invariant ∙ front_differs (a.at + l.i + 1) ys xs l.i (a.at + l.i) (omega arith) inside
    (λ e. c.if-sample-own.true (ap (of_z w16) (read ∙ sym e))))

pub loop-i-preserved : goal.loop-i-preserved
loop-i-preserved c =
    let l = c.loop-i in
    let a = c.args in
    let xs = a.samples.now in
    let ys = take a.count a.made.now in
    let inside : a.at + l.i < length xs = search rules in
    let few : l.i < a.count = omega (arith, length-take-le a.count a.made.now c.requires.0) in
    let x = get_or xs (a.at + l.i) (pos 0) in
    let y = get_or a.made.now l.i (pos 0) in
    let read : c.in-Some.sample.now ≡ x = search rules in
    let made = get_or-take a.count a.made.now l.i (pos 0) few in
    let fits : SFits w16 x × SFits w16 y = (search rules, search rules) in
    let box : to_z w16 (of_z w16 x) ≡ x = to_z-of_z {w = w16} {z = x} fits.0 in
    let own : to_z w16 (of_z w16 y) ≡ y = to_z-of_z {w = w16} {z = y} fits.1 in
    let here : x ≡ y = sym box ∙ ap (to_z w16) (ap (of_z w16) (sym read) ∙ c.if-sample-own.false ∙ ap (of_z w16) made) ∙ own in
    l.invariant ∙ front_next (a.at + l.i + 1) ys xs l.i (a.at + l.i) (a.at + (l.i + 1) + 1) (l.i + 1) (a.at + (l.i + 1))
    (omega arith) (omega arith) (omega arith) (omega arith) inside (made ∙ sym here)

pub returns : goal.returns
returns c =
    let l = c.loop-i in
    let a = c.args in
    sym (l.invariant ∙ front_done (a.at + l.i + 1) (take a.count a.made.now) a.samples.now l.i (a.at + l.i) (omega arith))

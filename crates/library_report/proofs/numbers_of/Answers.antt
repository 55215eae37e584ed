-- `numbers_of` meets its contract. Assumes nothing.
use mathlib.Core.Path.{◌≡◌, refl, sym, ◌∙◌}
use native.Mathlib.Omega.{arith}
use native.Mathlib.Numerals.{add-one}
use borrow.Author.Rules.{rules}
use lib.ListN.{length-set}
use lib.Seq.{take_all}
use Rattle.numbers.specs.Firsts.{firsts}
use Rattle.numbers.proofs.Firsts.{prefix_step}
use Rattle.library_report.specs.Layout.{numbers_of_lem}
use Rattle.library_report.proofs.numbers_of.Goals as goal

pub loop-place-init : goal.loop-place-init
unfolding firsts
loop-place-init c = (search rules, refl)

pub loop-place-preserved : goal.loop-place-preserved
loop-place-preserved c =
    let l = c.loop-place in
    (simp length-set l.invariant.0, rw (c.number_at.ensures, add-one l.place) (prefix_step _ l.place l.number-items (omega (arith, l.invariant.0)) l.invariant.1))

pub returns : goal.returns
unfolding numbers_of_lem
returns c =
    let l = c.loop-place in
    let done : l.place ≡ 52 = omega arith in
    sym (take_all 52 l.number-items (omega (arith, l.invariant.0)))
    ∙ rw (done, c.held_number-4.ensures, c.held_number-3.ensures, c.held_number-2.ensures, c.held_number.ensures) at l.invariant.1

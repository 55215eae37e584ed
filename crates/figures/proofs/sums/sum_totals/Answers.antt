-- `sums::sum_totals` meets its contract. Assumes nothing.
use mathlib.Core.Path.{◌≡◌, refl, ap, ◌∙◌}
use mathlib.Core.List.{List, append-nil}
use Prim.Native.Nat.{ℕ}
use native.Mathlib.Omega.{arith}
use native.Mathlib.Numerals.{add-one}
use borrow.Author.Rules.{rules}
use lib.ListN.{length, get_or, drop_of_length-le}
use Rattle.numbers.specs.Firsts.{firsts}
use Rattle.numbers.proofs.Firsts.{written_step}
use Rattle.figures.specs.Totals.{summed_at, summed}
use Rattle.figures.proofs.TotalLaws.{sum_below, not_yet}
use Rattle.figures.proofs.sums.sum_totals.Goals as goal

pub loop-i-init : goal.loop-i-init
unfolding firsts
loop-i-init c = refl

pub overflow_add-total : goal.overflow_add-total
overflow_add-total c =
    let l = c.loop-i in
    let a = c.args in
    let size : length a.a ≡ 24 = search rules in
    let held : get_or l.total-items l.i 0 ≡ get_or a.a l.i 0 = ap (λ (t : List ℕ). get_or t l.i 0) l.invariant ∙ not_yet (summed_at a.a a.b) l.i a.a (omega arith) in
    let few = sum_below a.a a.b c.requires.2 l.i (search rules) in
    rw held (search rules)

pub loop-i-preserved : goal.loop-i-preserved
loop-i-preserved c =
    let l = c.loop-i in
    let a = c.args in
    let size : length a.a ≡ 24 = search rules in
    let held : get_or l.total-items l.i 0 ≡ get_or a.a l.i 0 = ap (λ (t : List ℕ). get_or t l.i 0) l.invariant ∙ not_yet (summed_at a.a a.b) l.i a.a (omega arith) in
    rw (held, l.invariant, add-one l.i) (written_step (summed_at a.a a.b) l.i a.a 0 (omega arith))

pub returns : goal.returns
unfolding summed
returns c =
    let l = c.loop-i in
    let a = c.args in
    let done : l.i ≡ 24 = omega arith in
    let size : length a.a ≡ 24 = search rules in
    l.invariant ∙ rw (done, drop_of_length-le a.a {i = 24} (omega arith)) (append-nil (firsts (summed_at a.a a.b) 24))

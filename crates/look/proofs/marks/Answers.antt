-- `marks` meets its contract: after k turns the first k marks are written. Assumes nothing.
use mathlib.Core.Path.{◌≡◌, refl, sym, ◌∙◌}
use mathlib.Core.List.{append-nil}
use Prim.Native.Nat.{ℕ}
use native.Mathlib.Numerals.{add-one}
use native.Mathlib.Omega.{arith}
use lib.ListN.{replicate}
use Rattle.numbers.specs.Firsts.{firsts}
use Rattle.numbers.proofs.Firsts.{written_step}
use Rattle.look.specs.Marks.{mark_of, eight_from}
use Rattle.look.proofs.RowMarks.{marks_long, marks_many, marks_short, eight_same}
use Rattle.look.proofs.marks.Goals as goal

pub returns-then-p-gt10 : goal.returns-then-p-gt10
returns-then-p-gt10 c = sym (marks_many _ _ (omega arith))

pub returns-then-row-p : goal.returns-then-row-p
returns-then-row-p c = sym (marks_short _ _ (omega arith))

pub loop-k-init : goal.loop-k-init
unfolding firsts
loop-k-init c = refl

pub loop-k-preserved : goal.loop-k-preserved
loop-k-preserved c =
    let a = c.args in
    let k = c.loop-k.k in
    let next = written_step (λ (j : ℕ). mark_of (eight_from a.p a.row.now j)) k (replicate 48 2) 0 (omega arith) in
    rw (add-one k, c.mark.ensures ∙ eight_same a.p a.row.now k, c.loop-k.invariant) next

pub returns : goal.returns
returns c =
    let done : c.loop-k.k ≡ 48 = omega arith in
    let a = c.args in
    c.loop-k.invariant ∙ rw done (append-nil _ ∙ sym (marks_long a.p a.row.now (omega arith) (omega arith)))

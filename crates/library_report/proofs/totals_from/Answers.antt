-- `totals_from` meets its contract: a part of the numbers is copied. Assumes nothing.
use Rattle.std.proofs.Common.{◌≡◌, refl, ◌∙◌, ℕ, zero, suc, ◌+◌, ◌-◌, ◌≤◌, List, length, get_or, take, drop, length-drop, arith, rules}
use lib.Seq.{take-suc, get_or-drop}
use Rattle.numbers.specs.Firsts.{firsts}
use Rattle.library_report.specs.Layout.{totals_from_lem}
use Rattle.library_report.proofs.totals_from.Goals as goal

part_is : (l : List ℕ) (place n : ℕ) → place + n ≤ length l → take n (drop place l) ≡ firsts (λ (j : ℕ). get_or l (place + j) 0) n
unfolding firsts
part_is l place zero h = refl
part_is l place (suc n) h =
    take-suc (drop place l) n 0 (simp length-drop (omega arith))
    ∙ rw (part_is l place n (omega arith), get_or-drop place l n 0)

pub returns : goal.returns
unfolding totals_from_lem
returns c =
    let numbers = c.args.numbers.now in
    let long : length numbers ≡ 52 = search rules in
    let many : c.args.place + 24 - c.args.place ≡ 24 = omega arith in
    (rw many at c.copy_from_slice.ensures.after) ∙ part_is numbers c.args.place 24 (omega (arith, c.requires))

-- `sums::is_too_large` meets its contract. Assumes nothing.
use mathlib.Core.Path.{◌≡◌, refl, sym, ◌∙◌}
use mathlib.Core.List.{[], ◌∷◌, ◌++◌}
use Prim.Native.Nat.{suc, ◌+◌, ◌^◌, ◌≤◌}
use native.Mathlib.Omega.{arith}
use borrow.Author.Rules.{rules}
use borrow.Author.Tests.{le-leb}
use lib.ListN.{length, length-append}
use Rattle.std.proofs.lemmas.Slice.Zip.{zip_turn, zip_end}
use Rattle.numbers.specs.Below.{all_below}
use Rattle.numbers.proofs.Below.{all_more}
use Rattle.figures.specs.Totals.{total_at, summed_at}
use Rattle.figures.proofs.TotalLaws.{sum_fit_at, fit_below, passes_not}
use Rattle.figures.proofs.sums.is_too_large.Goals as goal

pub loop-total-init : goal.loop-total-init
unfolding all_below
loop-total-init c = refl

pub overflow_sub-room : goal.overflow_sub-room
overflow_sub-room c =
    let l = c.loop-total in
    let a = c.args in
    let turn = zip_turn a.a a.b l.yielded _ l.total-iterator c.next.new.self c.next.result (search rules) (search rules) l.yielded_by _ c.in-Some.is c.next.ensures.steps in
    let size : length a.a ≡ 24 = search rules in
    let most = fit_below a.a c.requires.0 (length l.yielded) (omega (arith, turn.0)) in
    omega (arith, turn.2 0, most)

pub loop-total-preserved : goal.loop-total-preserved
loop-total-preserved c =
    let l = c.loop-total in
    let a = c.args in
    let n = length l.yielded in
    let turn = zip_turn a.a a.b l.yielded _ l.total-iterator c.next.new.self c.next.result (search rules) (search rules) l.yielded_by _ c.in-Some.is c.next.ensures.steps in
    let size : length a.a ≡ 24 = search rules in
    let most = fit_below a.a c.requires.0 n (omega (arith, turn.0)) in
    let next : length (l.yielded ++ ((c.in-Some.total, c.in-Some.more) ∷ [])) ≡ suc n = length-append l.yielded _ ∙ omega arith in
    let under : total_at a.a n + total_at a.b n ≤ 2 ^ 63 = omega (arith, turn.2 0, turn.3 0, most) in
    rw next (all_more n (sum_fit_at a.a a.b) l.invariant (le-leb (summed_at a.a a.b n) (2 ^ 63) under))

pub returns : goal.returns
returns c =
    let l = c.loop-total in
    let a = c.args in
    let all = zip_end a.a a.b l.yielded _ l.total-iterator c.next.new.self c.next.result (search rules) (search rules) l.yielded_by c.in-None.is c.next.ensures.steps in
    let first : length a.a ≡ 24 = search rules in
    let second : length a.b ≡ 24 = search rules in
    let done : length l.yielded ≡ 24 = omega (arith, all) in
    sym (passes_not a.a a.b (rw done at l.invariant))

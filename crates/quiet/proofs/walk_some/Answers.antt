-- `walk_some` meets its contract. Assumes nothing.
use Rattle.std.specs.Prelude.{Some}
use mathlib.Core.Path.{◌≡◌, ap, sym, ◌∙◌}
use mathlib.Core.Bool.{true}
use Prim.Native.Nat.{ℕ, ◌+◌, ◌-◌, ◌^◌, ◌≤◌, ◌<◌, min}
use native.Mathlib.Omega.{arith}
use borrow.Author.Tests.{leb-false}
use Rattle.search.specs.declared.Waiting.{Waiting}
use Rattle.search.specs.declared.Control.{Control}
use Rattle.quiet.specs.Walk.{is_due_lem, goes_on_lem}
use Rattle.look.specs.Marks.{eight_from}
use Rattle.quiet.proofs.GoesOn.{goes}
use Rattle.quiet.proofs.Rests.{rests_some}
use Rattle.quiet.proofs.WalkLaws.{fewer_in_range}
use Rattle.quiet.proofs.walk_some.Goals as goal

-- as many as are left and as can be counted, one at least
pub record Most (most left sample : ℕ) : Type 0 where
  pub some : 1 ≤ most
  pub few : most ≤ left
  pub count : sample + most ≤ 2 ^ 63

most_of : (most left sample : ℕ) → sample < 2 ^ 63 → 1 ≤ left → most ≡ min (2 ^ 63 - sample) left → Most most left sample
most_of most left sample below some e = record { some = omega arith; few = omega arith; count = omega arith }

-- fewer of them
fewer : (n most other left sample : ℕ) → Most most left sample → 1 ≤ other → n ≤ most → n ≡ min other most → Most n left sample
fewer n most other left sample m some less e =
    let a = m.some in
    let b = m.few in
    let d = m.count in
    record { some = omega arith; few = omega arith; count = omega arith }

-- a wait that goes on has more than one sample left
far_of : (p : ℕ) (c : Control) (w : Waiting) → goes_on_lem p c ≡ true → c.wait ≡ Some w → 1 < w.left
far_of p c w go e = leb-false w.left 1 (sym (ap is_due_lem e) ∙ (goes p c go).far)

pub overflow_sub-countable : goal.overflow_sub-countable
overflow_sub-countable c = let below = (goes _ _ c.requires.goes).count in omega arith

pub walk_block-requires : goal.walk_block-requires
walk_block-requires c =
    let a = c.args in
    let m = most_of c.min-most.result a.left a.control.sample (goes _ _ c.requires.goes).count c.requires.some c.min-most.ensures in
    let n = fewer c.min.result c.min-most.result 48 a.left a.control.sample m (omega arith) (omega arith) (omega arith) in
    record {
      some = n.some;
      few = omega arith;
      free = c.in-None.is;
      goes = c.requires.goes;
      count = n.count;
      values = fewer_in_range _ _ _ _ _ n.few c.requires.values;
    }

pub overflow_sub-near : goal.overflow_sub-near
overflow_sub-near c = let far = far_of _ _ c.in-Some.w c.requires.goes c.in-Some.is in omega arith

pub rest-requires : goal.rest-requires
rest-requires c =
    let a = c.args in
    let far = far_of _ _ c.in-Some.w c.requires.goes c.in-Some.is in
    let m = most_of c.min-most.result a.left a.control.sample (goes _ _ c.requires.goes).count c.requires.some c.min-most.ensures in
    let n = fewer c.min-n.result c.min-most.result (c.in-Some.w.left - 1) a.left a.control.sample m (omega arith) (omega arith) (omega arith) in
    (n.some, omega arith, n.count)

pub returns-in-Some : goal.returns-in-Some
returns-in-Some c =
    let a = c.args in
    let far = far_of _ _ c.in-Some.w c.requires.goes c.in-Some.is in
    let m = most_of c.min-most.result a.left a.control.sample (goes _ _ c.requires.goes).count c.requires.some c.min-most.ensures in
    let n = fewer c.min-n.result c.min-most.result (c.in-Some.w.left - 1) a.left a.control.sample m (omega arith) (omega arith) (omega arith) in
    record {
      some = n.some;
      most = n.few;
      leads =
          rw c.rest.ensures
          (rests_some a.p (eight_from a.p a.row.now) a.control (goes _ _ c.requires.goes) _ c.in-Some.is a.at _
          n.some (omega arith) n.count);
    }

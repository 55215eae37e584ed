-- `walk` meets its contract: at each turn the whole row is what the samples that are left make of the control by now. Assumes nothing.
use mathlib.Core.Path.{sym, ◌∙◌}
use Prim.Native.Nat.{◌+◌, ◌-◌, ◌*◌, ◌≤◌, ◌<◌}
use native.Mathlib.Omega.{arith}
use lib.ListN.{length}
use lib.Seq.{length-take-le}
use Rattle.quiet.proofs.Rows.{row_range}
use Rattle.quiet.proofs.WalkLaws.{row_many, row_short, row_out, row_ready, walk_stops, walk_ends, walk_on}
use borrow.Author.Rules.{rules}
use Rattle.quiet.proofs.walk.Goals as goal
use Rattle.quiet.proofs.walk.Lts as Lts
use Rattle.quiet.proofs.walk.Reads as Reads
use Rattle.quiet.proofs.walk.Tie as Tie

abbrev Else-p-gt10 : Type 0
Else-p-gt10 = Lts.Else1 Tie.the-claims Reads.Pre Reads.Post goal.the-invariant-loop-fed goal.the-decreases-loop-fed

abbrev Else-row-least-2 : Type 0
Else-row-least-2 = Lts.Else3 Tie.the-claims Reads.Pre Reads.Post goal.the-invariant-loop-fed goal.the-decreases-loop-fed

pub returns-then-p-gt10 : goal.returns-then-p-gt10
returns-then-p-gt10 c = sym (row_many _ _ _ _ c.if-p-gt10.true)

-- a symbol has 10 samples at most
rate_of : (e : Else-p-gt10) → e.args.p ≤ 10
rate_of e = omega arith

-- the row has all places
long_of : (e : Else-row-least-2) → let a = e.args in a.count + (7 * a.p + 48) ≤ length a.row.now
long_of e = omega arith

pub returns-then-row-least : goal.returns-then-row-least
returns-then-row-least c =
    let a = c.args in
    let short : length a.row.now < a.count + (7 * a.p + 48) = omega arith in
    sym (row_short _ _ _ _ (rate_of c.before.before) short)

pub returns-then-row-least-2 : goal.returns-then-row-least-2
returns-then-row-least-2 c =
    let a = c.args in
    let short : length a.row.now < a.count + (7 * a.p + 48) = omega arith in
    sym (row_short _ _ _ _ (rate_of c.before.before.before) short)

pub overflow_add-end : goal.overflow_add-end
overflow_add-end c = let long = long_of c.before in search rules

pub slice_bounds-is_in_range-end : goal.slice_bounds-is_in_range-end
slice_bounds-is_in_range-end c =
    let a = c.args in
    let inside : a.count + 7 * a.p ≤ length a.row.now = omega (arith, long_of c.before) in
    sym (length-take-le _ _ inside)

pub returns-then-not-is_in_range : goal.returns-then-not-is_in_range
returns-then-not-is_in_range c =
    sym (row_out _ _ _ _ (rate_of c.before.before.before.before.before) (long_of c.before.before.before) (sym c.is_in_range.ensures ∙ c.if-not-is_in_range.true))

pub loop-fed-init : goal.loop-fed-init
loop-fed-init c =
    (search rules, row_ready _ _ _ _ (rate_of c.before.before.before.before.before) (long_of c.before.before.before) (sym c.is_in_range.ensures ∙ c.if-not-is_in_range.false))

pub goes_on-requires : goal.goes_on-requires
goes_on-requires c = rate_of c.before.before.before.before.before.before.before

pub returns-then-not-goes_on : goal.returns-then-not-goes_on
returns-then-not-goes_on c =
    let l = c.loop-fed in
    sym (l.invariant.1 ∙ walk_stops _ _ _ _ _ (sym c.goes_on.ensures ∙ c.if-not-goes_on.true))

pub walk_some-walked-requires : goal.walk_some-walked-requires
walk_some-walked-requires c =
    let a = c.args in
    let fed = c.loop-fed.fed in
    record {
      some = omega arith;
      goes = sym c.goes_on.ensures ∙ c.if-not-goes_on.false;
      values =
          row_range a.p a.row.now a.count fed (a.count - fed) (rate_of c.before.before.before.before.before.before.before.before.before) (long_of c.before.before.before.before.before.before.before) (omega arith)
          (sym c.is_in_range.ensures ∙ c.if-not-is_in_range.false);
    }

pub overflow_add-fed : goal.overflow_add-fed
overflow_add-fed c = let most = c.walk_some-walked.ensures.most in search rules

pub loop-fed-smaller : goal.loop-fed-smaller
loop-fed-smaller c =
    let some = c.walk_some-walked.ensures.some in
    let most = c.walk_some-walked.ensures.most in
    search rules

pub loop-fed-preserved : goal.loop-fed-preserved
loop-fed-preserved c =
    let l = c.loop-fed in
    let most = c.walk_some-walked.ensures.most in
    (omega arith, l.invariant.1 ∙ walk_on _ _ _ l.fed _ _ _ most c.walk_some-walked.ensures.leads)

pub returns : goal.returns
returns c =
    let l = c.loop-fed in
    sym (l.invariant.1 ∙ walk_ends _ _ _ _ _ (omega arith))

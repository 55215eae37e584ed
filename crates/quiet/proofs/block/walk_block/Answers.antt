-- `walk_block` meets its contract. Assumes nothing.
use mathlib.Core.Path.{refl, sym, ◌∙◌}
use Prim.Native.Nat.{◌<◌}
use native.Mathlib.Omega.{arith}
use lib.ListN.{get_or}
use Rattle.quiet.specs.Parts.{Marked, Calm}
use Rattle.quiet.proofs.Rows.{neither, faint_all, marked, unmarked_below}
use Rattle.quiet.proofs.BlockLaws.{counted_block}
use borrow.Author.Rules.{rules}
use Rattle.quiet.proofs.block.walk_block.Goals as goal
use Rattle.quiet.proofs.block.walk_block.Lts as Lts
use Rattle.quiet.proofs.block.walk_block.Reads as Reads
use Rattle.quiet.proofs.block.walk_block.Tie as Tie

abbrev After-marks-marks : Type 0
After-marks-marks = Lts.After-marks Tie.the-claims Reads.Pre Reads.Post

abbrev Else-held-has_mark : Type 0
Else-held-has_mark = Lts.Else3 Tie.the-claims Reads.Pre Reads.Post

-- the marks are those of the block's samples
marks_of : (m : After-marks-marks) → let a = m.args in
    Marked a.p a.row.now a.at a.n m.marks-marks.result
marks_of m =
    let b = m.requires in
    marked m.args.p m.args.row.now m.args.at _ refl b.values.long b.values.rate _ m.marks-marks.ensures
    m.args.n b.few b.values

-- nothing is held and no frame's burst matches
calm_of : (e : Else-held-has_mark) → let a = e.args in
    Calm a.p a.row.now a.at a.n a.control
calm_of e =
    let few = e.requires.few in
    let both = neither _ _ e.if-held-has_mark.false in
    record {
      nothing = sym e.is_held-held.ensures ∙ both.0;
      no_frame = λ i h kind. (marks_of e.before.before.before).no_frame i h (unmarked_below e.marks-marks.result 2 (sym e.has_mark.ensures ∙ both.1) i (omega arith)) kind;
    }

pub overflow_mul-end : goal.overflow_mul-end
overflow_mul-end c = let rate = c.requires.values.rate in search rules

pub overflow_add-end : goal.overflow_add-end
overflow_add-end c = let rate = c.requires.values.rate in search rules

pub overflow_add-end-2 : goal.overflow_add-end-2
overflow_add-end-2 c = let long = c.requires.values.long in search rules

pub offset_bounds-row-at : goal.offset_bounds-row-at
offset_bounds-row-at c = let long = c.requires.values.long in search rules

pub slice_bounds-is_faint-count : goal.slice_bounds-is_faint-count
slice_bounds-is_faint-count c = let long = c.requires.values.long in search rules

pub slice_bounds-is_faint-start : goal.slice_bounds-is_faint-start
slice_bounds-is_faint-start c = let long = c.requires.values.long in search rules

pub slice_bounds-is_faint-end : goal.slice_bounds-is_faint-end
slice_bounds-is_faint-end c = let long = c.requires.values.long in search rules

pub count-requires : goal.count-requires
count-requires c = let b = c.requires in (b.free, b.count)

pub returns-then-is_faint : goal.returns-then-is_faint
returns-then-is_faint c =
    let b = c.requires in
    let few = b.few in
    counted_block c.args.p c.args.row.now c.args.at c.args.n c.args.control b
    (sym c.is_held-held.ensures ∙ c.if-not-held.true)
    (λ i l. faint_all c.args.p c.args.row.now c.args.at _ refl b.values.long (sym c.is_faint.ensures ∙ c.if-is_faint.true) i (omega arith)) _
    c.count.ensures

pub offset_bounds-row-at-2 : goal.offset_bounds-row-at-2
offset_bounds-row-at-2 c = let long = c.requires.values.long in search rules

pub slice_bounds-marks-count : goal.slice_bounds-marks-count
slice_bounds-marks-count c = let long = c.requires.values.long in search rules

pub slice_bounds-marks-start : goal.slice_bounds-marks-start
slice_bounds-marks-start c = let long = c.requires.values.long in search rules

pub slice_bounds-marks-end : goal.slice_bounds-marks-end
slice_bounds-marks-end c = let long = c.requires.values.long in search rules

pub search_marked-requires : goal.search_marked-requires
search_marked-requires c = (c.requires, marks_of c.before.before.before.before.before)

pub returns-then-held-has_mark : goal.returns-then-held-has_mark
returns-then-held-has_mark c = c.search_marked.ensures

pub set_timer_last-last-requires : goal.set_timer_last-last-requires
set_timer_last-last-requires c =
    (c.requires, marks_of c.before.before.before.before.before.before.before.before, calm_of c.before.before.before.before.before)

pub count-last-requires : goal.count-last-requires
count-last-requires c = let b = c.requires in (b.free, b.count)

pub returns-then-has_mark : goal.returns-then-has_mark
returns-then-has_mark c = c.set_timer_last-last.ensures

pub returns-else-has_mark : goal.returns-else-has_mark
returns-else-has_mark c =
    let b = c.requires in
    let few = b.few in
    counted_block c.args.p c.args.row.now c.args.at c.args.n c.args.control b (calm_of c.before.before.before.before.before).nothing
    (λ i l.
    let low : get_or c.marks-marks.result i 0 < 1 = unmarked_below c.marks-marks.result 1 (sym c.has_mark-2.ensures ∙ c.if-has_mark.false) i (omega arith) in
    (marks_of c.before.before.before.before.before.before.before.before).none i l (omega arith)) _ c.count-last.ensures

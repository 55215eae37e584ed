-- `windows::hear_samples` meets its contract: at each turn the samples that are left go on from the record by now. Assumes nothing.
use mathlib.Core.Path.{sym, ap, ◌∙◌}
use mathlib.Core.List.{List}
use Prim.Native.Nat.{◌+◌, ◌-◌, ◌*◌, ◌≤◌, ◌<◌}
use native.Mathlib.Omega.{arith}
use borrow.Author.Rules.{rules}
use lib.IntN.{ℤ}
use lib.ListN.{length, drop, length-drop}
use Rattle.receiving.specs.Text.{refusal_in}
use Rattle.receiving.specs.Hear.{most_samples}
use Rattle.receiving.specs.Parts.{HearsStretch}
use Rattle.receiving.proofs.Lines.{tail_is}
use Rattle.receiving.proofs.Settlement.{hears_nothing}
use Rattle.receiving.proofs.Progress.{starts, all_to_come, hears_out, further, fed_some_more, more_to_come, hears_to_here}
use Rattle.receiving.proofs.windows.hear_samples.Goals as goal
use Rattle.receiving.proofs.windows.hear_samples.Goals.{At-loop-fed, Then-lines-written-ge-LINE, After-hear_stretch-heard}

-- ---- a turn
abbrev samples-of : At-loop-fed → List ℤ
samples-of l = l.args.samples.now

-- there are samples, and there is room for a line
record Turn (l : At-loop-fed) : Type 0 where
  more : l.loop-fed.fed < length (samples-of l)
  enough : 97 ≤ length l.args.lines.now - l.loop-fed.written

turn_of : (t : Then-lines-written-ge-LINE) → Turn t.before.before
turn_of t =
    let l = t.loop-fed in
    record { more = search rules; enough = omega (arith, l.invariant.2.same_room) }

stretched : (h : After-hear_stretch-heard) → let l = h.loop-fed in HearsStretch l.left (drop l.fed (samples-of h.before.before.before.before.before)) (drop l.written l.lines) h.hear_stretch-heard.result h.hear_stretch-heard.new.room
stretched h =
    let l = h.loop-fed in
    rw (tail_is (samples-of h.before.before.before.before.before) l.fed, tail_is l.lines l.written) at h.hear_stretch-heard.ensures

pub returns-then-samples-eq0 : goal.returns-then-samples-eq0
returns-then-samples-eq0 c =
    hears_nothing _ _ _ _ c.if-samples-eq0.true (c.give_receipt.ensures ∙ ap refusal_in c.listen-heard.ensures.answers)

pub loop-fed-init : goal.loop-fed-init
loop-fed-init c = (search rules, c.requires, starts _ _, all_to_come _ _ c.args.lines.now)

pub overflow_sub-lines : goal.overflow_sub-lines
overflow_sub-lines c = c.loop-fed.invariant.2.fits

pub offset_bounds-samples-fed : goal.offset_bounds-samples-fed
offset_bounds-samples-fed c = let few = c.loop-fed.invariant.1.few in search rules

pub slice_bounds-hear_stretch-count : goal.slice_bounds-hear_stretch-count
slice_bounds-hear_stretch-count c = c.loop-fed.invariant.2.at_most

pub slice_bounds-hear_stretch-count-in-loop-fed : goal.slice_bounds-hear_stretch-count-in-loop-fed
slice_bounds-hear_stretch-count-in-loop-fed c = c.loop-fed.invariant.2.fits

pub slice_bounds-hear_stretch-start-in-loop-fed : goal.slice_bounds-hear_stretch-start-in-loop-fed
slice_bounds-hear_stretch-start-in-loop-fed c = let fits = c.loop-fed.invariant.2.fits in search rules

pub slice_bounds-hear_stretch-end-in-loop-fed : goal.slice_bounds-hear_stretch-end-in-loop-fed
slice_bounds-hear_stretch-end-in-loop-fed c = let fits = c.loop-fed.invariant.2.fits in search rules

pub hear_stretch-heard-requires : goal.hear_stretch-heard-requires
hear_stretch-heard-requires c =
    let l = c.loop-fed in
    rw (tail_is l.lines l.written) (simp length-drop (omega (arith, (turn_of c.before.before).enough, l.invariant.2.same_room)))

-- where the work is after the stretch
stands : (h : After-hear_stretch-heard) → let l = h.loop-fed in let r = h.hear_stretch-heard.result in (l.written + r.written ≤ 97 * (l.fed + r.fed)) × (l.fed + r.fed ≤ length (samples-of h.before.before.before.before.before)) × (length (samples-of h.before.before.before.before.before) ≤ most_samples)
stands h =
    let l = h.loop-fed in
    let t = turn_of h.before.before.before in
    let s = further _ _ _ _ _ _ _ l.invariant.2 l.invariant.3 t.more t.enough _ _ (stretched h) in
    (s.few, s.at_most, l.invariant.1.few)

pub overflow_add-written : goal.overflow_add-written
overflow_add-written c = let s = stands c.before.before.before.before.before.before in search rules

pub overflow_add-fed : goal.overflow_add-fed
overflow_add-fed c = let s = stands c.before.before.before.before.before.before.before in search rules

pub shape_of-lines-then-not-is_offered : goal.shape_of-lines-then-not-is_offered
shape_of-lines-then-not-is_offered c =
    let l = c.loop-fed in
    let t = turn_of c.before.before.before.before.before.before.before.before.before.before.before.before in
    let room = (further _ _ _ _ _ _ _ l.invariant.2 l.invariant.3 t.more t.enough _ _ (stretched c.before.before.before.before.before.before.before.before.before)).same_room in
    search rules

pub returns-then-not-is_offered : goal.returns-then-not-is_offered
returns-then-not-is_offered c =
    let l = c.loop-fed in
    let t = turn_of c.before.before.before.before.before.before.before.before.before.before.before.before in
    hears_to_here _ _ _ _ _ _ _ l.invariant.2 l.invariant.3 t.more t.enough _ _ (stretched c.before.before.before.before.before.before.before.before.before) _ (sym c.is_offered.ensures ∙ c.if-not-is_offered.true) c.give_receipt-told.ensures

pub loop-fed-smaller : goal.loop-fed-smaller
loop-fed-smaller c =
    let l = c.loop-fed in
    let t = turn_of c.before.before.before.before.before.before.before.before.before.before.before.before in
    let some = fed_some_more _ _ _ _ _ _ _ l.invariant.2 l.invariant.3 t.more t.enough _ _ (stretched c.before.before.before.before.before.before.before.before.before) (sym c.is_offered.ensures ∙ c.if-not-is_offered.false) in
    omega (arith, some, t.more)

pub loop-fed-preserved : goal.loop-fed-preserved
loop-fed-preserved c =
    let l = c.loop-fed in
    let t = turn_of c.before.before.before.before.before.before.before.before.before.before.before.before in (
      l.invariant.0,
      l.invariant.1,
      further _ _ _ _ _ _ _ l.invariant.2 l.invariant.3 t.more t.enough _ _ (stretched c.before.before.before.before.before.before.before.before.before),
      more_to_come _ _ _ _ _ _ _ l.invariant.2 l.invariant.3 t.more t.enough _ _ (stretched c.before.before.before.before.before.before.before.before.before) (sym c.is_offered.ensures ∙ c.if-not-is_offered.false),
    )

pub shape_of-lines-else-lines-written-ge-LINE : goal.shape_of-lines-else-lines-written-ge-LINE
shape_of-lines-else-lines-written-ge-LINE c = let room = c.loop-fed.invariant.2.same_room in search rules

-- some samples went in: at first there is room for a line
pub returns-else-lines-written-ge-LINE : goal.returns-else-lines-written-ge-LINE
returns-else-lines-written-ge-LINE c =
    let l = c.loop-fed in
    let s = l.invariant.2 in
    let less : length c.args.lines.now - l.written < 97 = omega (arith, s.same_room) in
    hears_out _ _ _ _ _ _ _ s l.invariant.3 (omega (arith, s.few, less, l.invariant.1.room l.invariant.0)) (λ _. less)

pub shape_of-lines-after-loop-fed : goal.shape_of-lines-after-loop-fed
shape_of-lines-after-loop-fed c = let room = c.loop-fed.invariant.2.same_room in search rules

pub returns-after-loop-fed : goal.returns-after-loop-fed
returns-after-loop-fed c =
    let l = c.loop-fed in
    let out : length (samples-of c.before) ≤ l.fed = search rules in
    hears_out _ _ _ _ _ _ _ l.invariant.2 l.invariant.3 (omega (arith, out, l.invariant.0)) (λ more. absurd (omega arith))

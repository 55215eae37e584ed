-- `advance_stretch` meets its contract. Assumes nothing.
use Rattle.std.specs.Prelude.{Option}
use Rattle.search.specs.declared.Waiting.{Waiting}
use mathlib.Core.Path.{◌≡◌, sym}
use Prim.Native.Nat.{ℕ, ◌≤◌, min}
use native.Mathlib.Omega.{arith}
use lib.Seq.{length-take-le}
use Rattle.quiet.specs.Walk.{before_due}
use Rattle.quiet.proofs.BeforeDue.{before_due_few}
use Rattle.demodulator.proofs.StretchFeeds.{none_taken, first_samples, taken_plain}
use Rattle.demodulator.proofs.stretch.advance_stretch.Goals as goal

-- no more are tried than there are, and than a stretch has at most
few_tried : (o : Option Waiting) (left r : ℕ) → r ≡ before_due o (min left 624) → (r ≤ left) × (r ≤ 624)
few_tried o left r e = let l = before_due_few o (min left 624) in (omega (arith, l, e), omega (arith, l, e))

pub returns-then-not-plain : goal.returns-then-not-plain
returns-then-not-plain c = none_taken _ _ _ _ _ _ _ c.requires.0

pub returns-then-n-lt-FEW : goal.returns-then-n-lt-FEW
returns-then-n-lt-FEW c = none_taken _ _ _ _ _ _ _ c.requires.0

pub returns-then-count-places : goal.returns-then-count-places
returns-then-count-places c = none_taken _ _ _ _ _ _ _ c.requires.0

pub returns-then-ring-places : goal.returns-then-ring-places
returns-then-ring-places c = none_taken _ _ _ _ _ _ _ c.requires.0

pub slice_bounds-walk_stretch-end : goal.slice_bounds-walk_stretch-end
slice_bounds-walk_stretch-end c =
    let q = c.count_quiet-n in
    sym (length-take-le _ _ (few_tried _ _ _ q.ensures).0)

pub walk_stretch-requires : goal.walk_stretch-requires
walk_stretch-requires c =
    let few = length-take-le c.count_quiet-n.result c.args.samples.now (few_tried _ _ _ c.count_quiet-n.ensures).0 in (
      c.requires.0,
      c.requires.1 c.if-not-plain.false,
      record { window_cursor = omega arith; ring_cursor = omega arith },
      omega (arith, few, (few_tried _ _ _ c.count_quiet-n.ensures).1),
    )

pub returns : goal.returns
returns c =
    taken_plain _ _ _ _ _ _ _ _ _ _ (c.walk_stretch.ensures _ (first_samples _ _ (few_tried _ _ _ c.count_quiet-n.ensures).0)) c.if-not-plain.false

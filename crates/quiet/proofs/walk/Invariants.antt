-- `walk` meets its contract: at each turn the whole row is what the samples that are left make of the control by now. Assumes nothing.
use mathlib.Core.Path.{◌≡◌}
use Prim.Native.Nat.{◌-◌, ◌≤◌}
use Rattle.look.specs.Marks.{eight_from}
use Rattle.quiet.specs.Walk.{walked_from, walked}
use Rattle.quiet.proofs.walk.Given as goal

abbrev pub invariant-loop-fed : goal.invariant-loop-fed
invariant-loop-fed l = (l.fed ≤ l.count) × (walked l.p l.row l.count l.initial.now ≡ walked_from l.p (eight_from l.p l.row) l.fed (l.count - l.fed) l.now)

abbrev pub decreases-loop-fed : goal.decreases-loop-fed
decreases-loop-fed l = l.count - l.fed

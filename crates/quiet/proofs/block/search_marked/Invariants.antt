-- `search_marked` meets its contract. The loop's invariant: the samples so far are in the control. Assumes nothing.
use Prim.Native.Nat.{◌-◌}
use Rattle.quiet.proofs.Midway.{Midway}
use Rattle.quiet.proofs.block.search_marked.Given as goal

abbrev pub invariant-loop-fed : goal.invariant-loop-fed
invariant-loop-fed l = Midway l.p l.row l.at l.n l.initial.now l.fed l.now

abbrev pub decreases-loop-fed : goal.decreases-loop-fed
decreases-loop-fed l = l.n - l.fed

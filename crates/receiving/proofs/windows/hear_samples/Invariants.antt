-- `windows::hear_samples` meets its contract: at each turn the samples that are left go on from the record by now. Assumes nothing.
use Prim.Native.Nat.{◌-◌, ◌≤◌}
use lib.ListN.{length, take}
use Rattle.receiving.specs.Parts.{Roomy}
use Rattle.receiving.proofs.Progress.{SoFar, ToCome}
use Rattle.receiving.proofs.windows.hear_samples.Given as goal

abbrev pub invariant-loop-fed : goal.invariant-loop-fed
invariant-loop-fed l =
    (1 ≤ length l.samples)
    × Roomy l.samples l.initial.lines
    × SoFar l.samples l.initial.lines l.lines l.fed l.written
    × ToCome l.initial.left l.samples (length l.initial.lines) (take l.written l.lines) l.left l.fed l.written

abbrev pub decreases-loop-fed : goal.decreases-loop-fed
decreases-loop-fed l = length l.samples - l.fed

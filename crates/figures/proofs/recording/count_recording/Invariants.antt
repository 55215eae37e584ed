-- `recording::count_recording` meets its contract: before each turn the figures are those of the samples that went in. Assumes nothing.
use Prim.Native.Nat.{◌+◌, ◌-◌, ◌*◌}
use lib.ListN.{length}
use Rattle.figures.proofs.RecordingLaws.{Heard}
use Rattle.figures.proofs.recording.count_recording.Given as goal

abbrev pub invariant-loop-fed : goal.invariant-loop-fed
invariant-loop-fed l = Heard l.rate l.samples l.span l.left l.figures l.fed l.most

abbrev pub decreases-loop-fed : goal.decreases-loop-fed
decreases-loop-fed l = (length l.samples - l.fed) * 241 + l.most

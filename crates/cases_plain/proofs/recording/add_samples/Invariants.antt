-- `add_samples` meets its contract: the room keeps its length, and the next place stays within it. Assumes nothing.
use Rattle.std.proofs.Common.{◌≤◌, ◌≡◌, length}
use Rattle.cases_plain.proofs.recording.add_samples.Given as goal

abbrev pub invariant-loop-four : goal.invariant-loop-four
invariant-loop-four l = (l.next ≤ length l.initial.samples) × (length l.samples ≡ length l.initial.samples)

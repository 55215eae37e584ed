-- `replay` is safe: the recording lies within its room. Assumes nothing.
use Rattle.std.proofs.Common.{◌≤◌, length}
use Rattle.cases_plain.proofs.replay.Given as goal

abbrev pub invariant-loop-line : goal.invariant-loop-line
invariant-loop-line g l = l.count ≤ length l.samples

-- `by_stretch` ends: each turn takes a sample at least. Assumes nothing.
use Rattle.std.proofs.Common.{length}
use Rattle.speed.proofs.receiver.by_stretch.Given as goal

abbrev pub decreases-loop-rest : goal.decreases-loop-rest
decreases-loop-rest l = length l.rest

-- `hear_all` ends: each read that goes on takes a byte at least. Assumes nothing.
use Rattle.std.proofs.Common.{length}
use Rattle.cases_programs.proofs.received.hear_all.Given as goal

abbrev pub decreases-loop-rest : goal.decreases-loop-rest
decreases-loop-rest g l = length l.rest

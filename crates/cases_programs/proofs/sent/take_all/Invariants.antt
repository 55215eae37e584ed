-- `take_all` ends: each piece takes a byte of the text at least. Assumes nothing.
use Rattle.std.proofs.Common.{length}
use Rattle.cases_programs.proofs.sent.take_all.Given as goal

abbrev pub decreases-loop-rest : goal.decreases-loop-rest
decreases-loop-rest l = length l.rest

-- `adler` is safe: each sum stays below 65,521. Assumes nothing.
use Rattle.std.proofs.Common.{◌<◌}
use Rattle.cases_programs.proofs.sent.adler.Given as goal

abbrev pub invariant-loop-byte : goal.invariant-loop-byte
invariant-loop-byte l = (l.so_far.bytes < 65521) × (l.so_far.sums < 65521)

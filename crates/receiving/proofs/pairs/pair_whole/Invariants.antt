-- `pairs::pair_whole` meets its contract: the samples so far, and those of the bytes that are left, are all. Assumes nothing.
use Rattle.receiving.proofs.BytePairs.{PairsSoFar}
use Rattle.receiving.proofs.pairs.pair_whole.Given as goal

abbrev pub invariant-loop-i : goal.invariant-loop-i
invariant-loop-i l = PairsSoFar l.bytes l.fn.samples l.samples l.i

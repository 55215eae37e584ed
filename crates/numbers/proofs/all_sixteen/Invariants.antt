-- `all_sixteen` meets its contract: each sample before place i has been read. Assumes nothing.
use Prim.Native.Nat.{ℕ, ◌<◌}
use lib.IntN.{pos}
use lib.ListN.{get_or}
use mir.Syntax.{w16}
use mir.Val.{SFits}
use Rattle.numbers.proofs.all_sixteen.Given as goal

abbrev pub invariant-loop-sample : goal.invariant-loop-sample
invariant-loop-sample l = (k : ℕ) → k < l.sample-index → SFits w16 (get_or l.samples k (pos 0))

-- `halves_agree` meets its contract: after i turns the pairs before i are compared. Assumes nothing.
use mathlib.Core.Path.{◌≡◌}
use Prim.Native.Nat.{ℕ, ◌+◌}
use lib.IntN.{pos}
use lib.ListN.{get_or}
use Rattle.numbers.specs.Below.{all_below}
use Rattle.shaping.specs.Rate.{tap_count}
use Rattle.demodulator.specs.Fit.{same_sample}
use Rattle.demodulator.proofs.fit.halves_agree.Given as goal

abbrev pub invariant-loop-i : goal.invariant-loop-i
invariant-loop-i l = l.all ≡ all_below l.i (λ (j : ℕ). same_sample (get_or l.filter_win j (pos 0)) (get_or l.filter_win (j + tap_count l.fn.p) (pos 0)))

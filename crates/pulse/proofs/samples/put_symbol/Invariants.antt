-- `put_symbol` meets its contract: after j turns the first j places are written. Assumes nothing.
use mathlib.Core.Path.{◌≡◌}
use mathlib.Core.List.{List}
use Prim.Native.Nat.{ℕ, ◌+◌, ◌*◌}
use lib.IntN.{ℤ, pos}
use lib.ListN.{get_or}
use Rattle.numbers.specs.Firsts.{written}
use Rattle.pulse.proofs.samples.put_symbol.Given as goal

abbrev pub of_phase : List ℤ → ℕ → ℕ → ℤ
of_phase cuts s j = get_or cuts (48 * j + s) (pos 0)

abbrev pub invariant-loop-j : goal.invariant-loop-j
invariant-loop-j l = l.room ≡ written (of_phase l.cuts l.s) l.j l.initial.room

-- `repeated` meets its contract: the first i symbols are the burst's signs, again and again.
use mathlib.Core.Path.{◌≡◌}
use mathlib.Core.List.{List}
use Prim.Native.Nat.{ℕ}
use lib.IntN.{ℤ}
use lib.Ieee.{Float, binary32, of_int}
use Rattle.numbers.specs.Firsts.{written}
use Rattle.encode.specs.Frames.{repeated_sign}
use Rattle.encode.proofs.repeated.Given as goal

abbrev pub symbol : List ℤ → ℕ → Float
symbol signs i = of_int binary32 (repeated_sign signs i)

abbrev pub invariant-loop-i : goal.invariant-loop-i
invariant-loop-i l = l.symbol-items ≡ written (symbol l.signs) l.i l.initial.symbol-items

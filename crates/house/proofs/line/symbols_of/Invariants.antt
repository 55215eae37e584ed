-- `line::symbols_of` meets its contract: the first i symbols are those of the line. Assumes nothing.
use mathlib.Core.Path.{◌≡◌}
use mathlib.Core.List.{List}
use Prim.Native.Nat.{ℕ}
use lib.ListN.{length, take}
use lib.Ieee.{Float}
use Rattle.numbers.specs.Firsts.{firsts}
use Rattle.house.specs.Line.{symbol_of, bits_at}
use Rattle.house.proofs.line.symbols_of.Given as goal

abbrev pub symbol_in : List ℕ → ℕ → Float
symbol_in line i = symbol_of (bits_at line i)

abbrev pub invariant-loop-i : goal.invariant-loop-i
invariant-loop-i l = (length l.place-items ≡ 192) × (take l.i l.place-items ≡ firsts (symbol_in l.line) l.i)

-- `line::symbols_line` meets its contract: the first i digits are written, and the rest is line feeds. Assumes nothing.
use mathlib.Core.Path.{◌≡◌}
use mathlib.Core.List.{List}
use Prim.Native.Nat.{ℕ}
use lib.ListN.{replicate}
use lib.Ieee.{Float}
use Rattle.numbers.specs.Firsts.{written}
use Rattle.house.specs.Digits.{digit_of}
use Rattle.house.specs.Line.{line_feed, four_at}
use Rattle.house.proofs.line.symbols_line.Given as goal

abbrev pub digit_in : List Float → ℕ → ℕ
digit_in symbols i = digit_of (four_at symbols i)

abbrev pub invariant-loop-i : goal.invariant-loop-i
invariant-loop-i l = l.line ≡ written (digit_in l.symbols) l.i (replicate 97 line_feed)

-- `generate_bert_preamble` meets its contract: the first i symbols are the preamble's, turned.
use mathlib.Core.Path.{◌≡◌}
use mathlib.Core.List.{List}
use Prim.Native.Nat.{ℕ}
use lib.ListN.{get_or}
use lib.Ieee.{Float, nan, binary32, of_bits, mul}
use Rattle.numbers.specs.Firsts.{written}
use Rattle.encode.proofs.generate_bert_preamble.Given as goal

abbrev pub turned : List Float → ℕ → Float
turned plain i = mul binary32 (get_or plain i nan) (of_bits binary32 0xbf80_0000)

abbrev pub invariant-loop-symbol : goal.invariant-loop-symbol
invariant-loop-symbol l = l.symbol-items ≡ written (turned l.initial.symbol-items) l.symbol-index l.initial.symbol-items

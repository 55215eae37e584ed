-- `accept::sliced_word` meets its contract: so many symbols read make a number of so many times two bits. Assumes nothing.
use mathlib.Core.Path.{◌≡◌}
use Rattle.house.specs.Accept.{read_bits, symbol_at}
use Rattle.house.proofs.accept.sliced_word.Given as goal

abbrev pub invariant-loop-symbol : goal.invariant-loop-symbol
invariant-loop-symbol l = l.read ≡ read_bits (symbol_at l.symbol-items) l.symbol-index

-- `writing::put_numbers` meets its contract: after i turns the first i are laid. Assumes nothing.
use mathlib.Core.Path.{◌≡◌}
use Prim.Native.Nat.{ℕ}
use lib.ListN.{get_or}
use Rattle.wire.specs.Bytes.{laid}
use Rattle.wire.proofs.writing.put_numbers.Given as goal

abbrev pub invariant-loop-i : goal.invariant-loop-i
invariant-loop-i l = l.to ≡ laid 8 (λ (k : ℕ). get_or l.from k 0) l.i l.initial.to

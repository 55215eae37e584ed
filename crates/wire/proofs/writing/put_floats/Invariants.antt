-- `writing::put_floats` meets its contract: after i turns the first i are laid. Assumes nothing.
use mathlib.Core.Path.{◌≡◌}
use Rattle.wire.specs.Bytes.{laid, float_bits}
use Rattle.wire.proofs.writing.put_floats.Given as goal

abbrev pub invariant-loop-i : goal.invariant-loop-i
invariant-loop-i l = l.to ≡ laid 4 (float_bits l.from) l.i l.initial.to

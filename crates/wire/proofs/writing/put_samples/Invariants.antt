-- `writing::put_samples` meets its contract: after i turns the first i are laid. Assumes nothing.
use mathlib.Core.Path.{◌≡◌}
use Rattle.wire.specs.Bytes.{laid, sample_bits}
use Rattle.wire.proofs.writing.put_samples.Given as goal

abbrev pub invariant-loop-i : goal.invariant-loop-i
invariant-loop-i l = l.to ≡ laid 2 (sample_bits l.from) l.i l.initial.to

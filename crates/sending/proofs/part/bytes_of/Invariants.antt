-- `part::bytes_of` meets its contract: the bytes of the first i samples are written. Assumes nothing.
use mathlib.Core.Path.{◌≡◌}
use Prim.Native.Nat.{◌*◌}
use lib.ListN.{length, take}
use Rattle.sending.specs.Text.{sample_bytes}
use Rattle.sending.proofs.part.bytes_of.Given as goal

abbrev pub invariant-loop-i : goal.invariant-loop-i
invariant-loop-i l = (length l.bytes ≡ 5440) × (take (2 * l.i) l.bytes ≡ sample_bytes (take l.i l.fn.samples))

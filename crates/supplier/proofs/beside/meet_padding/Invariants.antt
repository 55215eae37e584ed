-- `beside::meet_padding` meets its contract: what is left of the padding is beside what is left of the stretch. Assumes nothing.
use mathlib.Core.Path.{◌≡◌}
use Prim.Native.Nat.{◌+◌}
use lib.IntN.{pos}
use lib.ListN.{drop, replicate}
use Rattle.supplier.specs.Parts.{front}
use Rattle.supplier.proofs.beside.meet_padding.Given as goal

abbrev pub invariant-loop-met : goal.invariant-loop-met
invariant-loop-met l = front 1 (replicate l.padding (pos 0)) l.samples ≡ front (l.met + 1) (drop l.met (replicate l.padding (pos 0))) (drop l.met l.samples)

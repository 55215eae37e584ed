-- `part::compare` meets its contract: the parts up to now are in the stretch, and what is left is beside what is left of it. Assumes nothing.
use Prim.Native.Nat.{◌*◌}
use Rattle.supplier.proofs.PartByPart.{Stands}
use Rattle.supplier.proofs.part.compare.Given as goal

abbrev pub invariant-loop-line : goal.invariant-loop-line
invariant-loop-line l = Stands l.padding l.lines l.samples l.modulator l.at (97 * l.line-index)

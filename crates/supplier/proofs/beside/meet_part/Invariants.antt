-- `beside::meet_part` meets its contract. Assumes nothing.
use mathlib.Core.Path.{◌≡◌}
use Prim.Native.Nat.{◌+◌}
use lib.ListN.{take, drop}
use Rattle.supplier.specs.Parts.{front}
use Rattle.supplier.proofs.beside.meet_part.Given as goal

abbrev pub invariant-loop-i : goal.invariant-loop-i
invariant-loop-i l = front (l.at + 1) (take l.count l.made) (drop l.at l.samples) ≡ front (l.at + l.i + 1) (drop l.i (take l.count l.made)) (drop (l.at + l.i) l.samples)

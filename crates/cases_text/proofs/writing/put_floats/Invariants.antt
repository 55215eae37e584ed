-- What `put_floats` keeps: those before this one are written. Assumes nothing.
use Rattle.std.proofs.Common.{take}
use Rattle.std.specs.Io.KnownBytes.{Appends}
use Rattle.cases_text.specs.Written.{float_texts}
use Rattle.cases_text.proofs.writing.put_floats.Given as goal

abbrev pub invariant-loop-x : goal.invariant-loop-x
invariant-loop-x g l = Appends (g.W.Write.contents l.fn.out) (g.W.Write.contents l.out) (float_texts (take l.x-index l.xs))

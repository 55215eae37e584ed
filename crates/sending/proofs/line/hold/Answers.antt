-- `line::hold` meets its contract. Assumes nothing.
use mathlib.Core.Path.{sym}
use Rattle.sending.proofs.Parts.{held_is}
use Rattle.sending.proofs.line.hold.Goals as goal

pub returns : goal.returns
returns c = rw (c.append-line.ensures, c.count_taken-added.ensures) (sym (held_is c.args.s c.args.bytes.now))

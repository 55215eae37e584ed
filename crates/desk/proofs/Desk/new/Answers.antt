-- `new` meets its contract. Assumes nothing.
use mathlib.Core.Path.{ap}
use mathlib.Core.Bool.{false}
use lib.ListN.{replicate}
use Rattle.demodulator.specs.declared.SoftDemodulator.{SoftDemodulator}
use Rattle.demodulator.specs.Calls.{made}
use Rattle.desk.specs.declared.Desk.{Desk}
use Rattle.desk.proofs.Desk.new.Goals as goal

abbrev of : SoftDemodulator → Desk
of m = record { opened = replicate 8 false; receivers = replicate 8 m }

pub returns : goal.returns
unfolding made
returns c = ap of c.new-made.ensures.leaves

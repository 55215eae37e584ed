-- `new` meets its contract. Assumes nothing.
use Rattle.std.specs.Prelude.{None}
use mathlib.Core.Path.{ap}
use Rattle.demodulator.specs.declared.SoftDemodulator.{SoftDemodulator}
use Rattle.demodulator.specs.Calls.{made}
use Rattle.receiving.proofs.Receiving.new.Goals as goal

pub returns : goal.returns
unfolding made
returns c = ap (λ (m : SoftDemodulator). record { demodulator = m; odd = None }) c.new-begun.ensures.leaves

-- `Sending::open` meets its contract. Assumes nothing.
use Rattle.modulator.specs.Calls.{made}
use Rattle.house.specs.Line.{no_symbols}
use Rattle.sending.proofs.Parts.{open_said}
use Rattle.sending.proofs.Sending.open.Goals as goal

pub returns : goal.returns
unfolding no_symbols made
returns c = open_said c.new-begun.result.modulator c.new-begun.ensures.leaves c.part.result c.part.ensures

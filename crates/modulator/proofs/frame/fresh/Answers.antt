-- `frame::fresh` meets its contract. Assumes nothing.
use mathlib.Core.Path.{refl}
use Rattle.modulator.specs.Record.{fresh}
use Rattle.modulator.proofs.frame.fresh.Goals as goal

pub returns : goal.returns
unfolding fresh
returns c = refl

-- `frame::given` meets its contract. Assumes nothing.
use native.Mathlib.Omega.{arith}
use Rattle.modulator.proofs.frame.given.Goals as goal

pub framed-requires : goal.framed-requires
framed-requires c =
    (c.requires.0, c.requires.1, omega (arith, c.requires.2))

pub returns : goal.returns
returns c = rw c.requires.2 at c.framed.ensures

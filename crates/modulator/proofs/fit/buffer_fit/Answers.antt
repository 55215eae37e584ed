-- `fit::buffer_fit` meets its contract. Assumes nothing.
use Rattle.modulator.proofs.fit.buffer_fit.Goals as goal

pub returns : goal.returns
returns c = rw (c.count_fit.ensures, c.count_fit-2.ensures, c.count_fit-3.ensures)

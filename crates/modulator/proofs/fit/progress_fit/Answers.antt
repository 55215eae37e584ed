-- `fit::progress_fit` meets its contract. Assumes nothing.
use Rattle.modulator.proofs.fit.progress_fit.Goals as goal

pub returns : goal.returns
returns c = rw (c.store_places.ensures, c.padding_limit.ensures)

-- `reading::read` meets its contract: zeros after the bytes are of no account. Assumes nothing.
use mathlib.Core.Path.{ap, ◌∙◌}
use Rattle.std.proofs.lemmas.List.{drop-replicate}
use Rattle.wire.specs.Bytes.{low_first}
use Rattle.wire.proofs.Bytes.{low_first_zeros}
use Rattle.wire.proofs.reading.read.Goals as goal

pub returns : goal.returns
returns g c = rw (drop-replicate _ _ _) (low_first_zeros _ _ ∙ ap low_first (c.copy_from_slice.ensures.after ∙ c.piece-there.ensures))

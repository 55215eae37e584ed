-- What is to be written lies within the bytes. Assumes nothing.
use Rattle.sending.proofs.Lengths.{open_within}
use Rattle.send.proofs.main.Goals as goal

pub put-turn-requires : goal.put-turn-requires
put-turn-requires c = open_within _ c.open.ensures

-- What is to be written lies within the bytes. Assumes nothing.
use Rattle.sending.proofs.Lengths.{turn_within}
use Rattle.send.proofs.next_turn.Goals as goal

pub put-requires : goal.put-requires
put-requires g c = turn_within _ _ _ c.turn.ensures

-- `SyncBurst::target` meets its contract: each row of the table is what its word spells.
use Rattle.protocol.specs.Bursts.{signs_of, spelled, sign_of, word_of}
use Rattle.protocol.proofs.SyncBurst.target.Goals as goal

pub returns-in-Lsf : goal.returns-in-Lsf
unfolding signs_of word_of spelled sign_of
returns-in-Lsf c = rw (c.in-Frame.is, c.in-Lsf.is)

pub returns-in-Bert : goal.returns-in-Bert
unfolding signs_of word_of spelled sign_of
returns-in-Bert c = rw (c.in-Frame.is, c.in-Bert.is)

pub returns-in-Stream : goal.returns-in-Stream
unfolding signs_of word_of spelled sign_of
returns-in-Stream c = rw (c.in-Frame.is, c.in-Stream.is)

pub returns-in-Packet : goal.returns-in-Packet
unfolding signs_of word_of spelled sign_of
returns-in-Packet c = rw (c.in-Frame.is, c.in-Packet.is)

pub returns-in-Preamble : goal.returns-in-Preamble
unfolding signs_of spelled sign_of
returns-in-Preamble c = rw c.in-Preamble.is

pub returns-in-EndOfTransmission : goal.returns-in-EndOfTransmission
unfolding signs_of spelled sign_of
returns-in-EndOfTransmission c = rw c.in-EndOfTransmission.is

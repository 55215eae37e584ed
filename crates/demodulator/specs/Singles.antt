-- The single calls of a receiver as one type, and what each answers and leaves on a record. Assumes nothing.
use Rattle.std.specs.Prelude.{List, [], ℤ, replicate, Float}
use Rattle.std.specs.Float.{binary32}
use Rattle.std.specs.Float.Ieee.{of_bits}
use Rattle.shaping.specs.Rate.{Rate, rate_of}
use Rattle.search.specs.declared.Reply.{Reply}
use Rattle.demodulator.specs.declared.SoftDemodulator.{SoftDemodulator}
use Rattle.demodulator.specs.Calls.{Paper, Left, demodulated, answered, detected}

-- a sample, with the room for symbols that is lent with it; a reply; a question for the carrier
pub data Single : Type 0 where
  sample : ℤ → List Float → Single
  reply : Reply → Single
  query : Single

-- the room of a caller who lends 192 places with each sample
unfoldable pub blank : List Float
blank = replicate 192 (of_bits binary32 0)

-- what a call is answered with, and what its room then holds
pub record Said : Type 0 where
  pub answer : Paper
  pub room : List Float

-- one call on a record at a rate; a query leaves the record as it was
unfoldable pub left_at : Rate → SoftDemodulator → Single → Left
left_at R m (sample x room) = demodulated R m x room
left_at R m (reply r) = answered R.p m r []
left_at R m query = record { answer = detected R.p m; demodulator = m; room = [] }

-- at its own, as the functions promise
abbrev pub left : SoftDemodulator → Single → Left
left m c = left_at (rate_of m.rate) m c

-- what the caller sees of it, besides the record
abbrev pub said_by : Left → Said
said_by l = record { answer = l.answer; room = l.room }

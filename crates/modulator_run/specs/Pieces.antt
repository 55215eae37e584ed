-- A transmission read into one room after the other, and into all of them at once. Assumes nothing.
use Rattle.std.specs.Prelude.{◌≡◌, ℕ, ◌+◌, ℤ, take}
use mathlib.Core.List.{List, [], ◌∷◌, map, flatten}
use Rattle.machine.specs.Runs.{run, answers}
use Rattle.shaping.specs.Rate.{Rate}
use Rattle.modulator.specs.declared.SoftModulator.{SoftModulator}
use Rattle.modulator.specs.Paper.{Paper, refusal, done, wrote, transmit_end, read_output, idle, get_frame, nothing}
use Rattle.modulator.specs.Calls.{read as readInto}
use Rattle.modulator_run.specs.Rules.{Call, read, Said}
use Rattle.modulator_run.specs.Run.{sender}

-- how many samples an answer says were written
unfoldable pub counted : Paper → ℕ
counted (refusal number) = 0
counted done = 0
counted (wrote n) = n
counted (transmit_end n) = 0
counted read_output = 0
counted (idle state) = 0
counted get_frame = 0
counted nothing = 0

-- the samples that a read hands out
abbrev pub handed : Said → List ℤ
handed a = take (counted a.answer) a.room

abbrev pub reads : List (List ℤ) → List Call
reads rooms = map read rooms

unfoldable pub total : List Said → ℕ
total [] = 0
total (a ∷ rest) = counted a.answer + total rest

abbrev pub room_of : Said → List ℤ
room_of a = a.room

-- several reads hand out what one does: the samples, their number, and the rooms
pub record SameAs (pieces : List Said) (once : Said) : Type 0 where
  pub samples : flatten (map handed pieces) ≡ handed once
  pub number : once.answer ≡ wrote (total pieces)
  pub rooms : flatten (map room_of pieces) ≡ once.room

-- the same of a record's reads, and of the record that they leave
pub record SameLeft (R : Rate) (m : SoftModulator) (rooms : List (List ℤ)) : Type 0 where
  pub number : (readInto R m (flatten rooms)).answer ≡ wrote (total (answers sender m (reads rooms)))
  pub modulator : run sender m (reads rooms) ≡ (readInto R m (flatten rooms)).modulator
  pub written : flatten (map room_of (answers sender m (reads rooms))) ≡ (readInto R m (flatten rooms)).room

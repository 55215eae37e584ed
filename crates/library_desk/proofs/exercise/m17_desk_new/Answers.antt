-- `m17_desk_new` meets its contract. Assumes nothing.
use mathlib.Core.Path.{refl}
use lib.Ieee.{of_bits}
use Rattle.demodulator.specs.Record.{fresh}
use Rattle.library_desk.proofs.exercise.m17_desk_new.Goals as goal

-- src/exercise.rt:10:1
pub returns : goal.returns
unfolding fresh of_bits
returns c = record { answers = refl; leaves = refl }

-- What it is for memory to hold a sender, for a list of exported calls to follow one another, and for a call to touch nothing. Assumes nothing.
use Rattle.std.specs.Prelude.{◌≡◌, List, [], ◌∷◌}
use Rattle.modulator.specs.declared.SoftModulator.{SoftModulator}
use Rattle.modulator_run.specs.Rules.{Call, Said}
use Rattle.library_sender.specs.Layout.{numbers_code}
use Rattle.library_sender.specs.Memory.{Memory, record_in, paper_code, tells, room_lent, Export, Coded, coded_as}
use Rattle.library_sender.specs.Exports.{Says}

-- ---- the memory is a sender's, and that sender is this record
pub record Holds (m : Memory) (d : SoftModulator) : Type 0 where
  pub numbers : numbers_code m.numbers ≡ 0
  pub same : record_in m ≡ d

-- ---- the rules' calls and answers, as they cross
abbrev pub call_of : Export → Call
call_of e = e.call

-- the code and the told number of the rules' answer
abbrev pub coded : Export → Said → Coded
coded e s = coded_as (paper_code s.answer) s.room (tells s.answer e.told)

unfoldable pub coded_all : List Export → List Said → List Coded
coded_all [] ss = []
coded_all (e ∷ es) [] = []
coded_all (e ∷ es) (s ∷ ss) = coded e s ∷ coded_all es ss

-- ---- calls one after the other, each with its export's promise, on the memory that the one before it left
pub data Chain : Memory → List Export → List Coded → Memory → Type 0 where
  ends : (m : Memory) → Chain m [] [] m
  calls : (m n after : Memory) (e : Export) (es : List Export) (a : Coded) (rest : List Coded) → Says m e a n → Chain n es rest after → Chain m (e ∷ es) (a ∷ rest) after

-- ---- "Every refusal returns its number only, with record and buffers as they were."
pub record Untouched (m : Memory) (e : Export) (after : Memory) (a : Coded) : Type 0 where
  pub memory : after ≡ m
  pub room : a.room ≡ room_lent e.call
  pub told : a.told ≡ e.told

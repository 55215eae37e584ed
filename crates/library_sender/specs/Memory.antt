-- A sender's memory as a machine: what each call answers, and what it leaves in every lent place. Assumes nothing.
use Rattle.std.specs.Prelude.{cond, List, [], ℕ, leb, eqb, ℤ, Float}
use Rattle.machine.specs.Runs.{Machine}
use Rattle.modulator.specs.declared.SoftModulator.{SoftModulator}
use Rattle.modulator.specs.Paper.{Paper, refusal, done, wrote, transmit_end, read_output, idle, get_frame, nothing}
use Rattle.modulator.specs.Calls.{Left}
use Rattle.modulator_run.specs.Rules.{Call, provide, read, update, ask}
use Rattle.modulator_run.specs.Run.{left}
use Rattle.library_codes.specs.Codes.{refusal_code, flag_number}
use Rattle.library_sender.specs.Layout.{numbers_code, sender_in, numbers_of_lem}

-- ---- the memory that a caller lends
pub record Memory : Type 0 where
  pub store : List ℤ
  pub window : List Float
  pub numbers : List ℕ

abbrev pub memory_at : List ℤ → List Float → List ℕ → Memory
memory_at store window numbers = record { store = store; window = window; numbers = numbers }

-- the record in it
abbrev pub record_in : Memory → SoftModulator
record_in m = sender_in m.store m.window m.numbers

-- a record, laid out in it
abbrev pub laid_out : SoftModulator → Memory
laid_out d = record { store = d.next_transmission; window = d.filter_win; numbers = numbers_of_lem d }

-- ---- an answer's code, and the number beside it where the answer has one
abbrev pub paper_code : Paper → ℕ
paper_code (refusal why) = refusal_code why
paper_code done = 0
paper_code (wrote n) = 0
paper_code (transmit_end n) = 1
paper_code read_output = 2
paper_code (idle state) = 3
paper_code get_frame = 4
paper_code nothing = 0

abbrev pub tells : Paper → ℕ → ℕ
tells (refusal why) told = told
tells done told = told
tells (wrote n) told = n
tells (transmit_end n) told = n
tells read_output told = told
tells (idle state) told = flag_number state
tells get_frame told = told
tells nothing told = told

-- ---- a call, with what the place for the told number holds before it
pub record Export : Type 0 where
  pub call : Call
  pub told : ℕ

abbrev pub export_of : Call → ℕ → Export
export_of call told = record { call = call; told = told }

-- the room that is lent with it
abbrev pub room_lent : Call → List ℤ
room_lent (provide frame symbols) = []
room_lent (read room) = room
room_lent (update fill capacity latency) = []
room_lent ask = []

-- ---- its answer: the code, what the room then holds, and the told number
pub record Coded : Type 0 where
  pub code : ℕ
  pub room : List ℤ
  pub told : ℕ

abbrev pub coded_as : ℕ → List ℤ → ℕ → Coded
coded_as code room told = record { code = code; room = room; told = told }

-- "Every refusal returns its number only, with record and buffers as they were."
abbrev pub unless_refused : {A : Type 0} → ℕ → A → A → A
unless_refused code before after = cond (leb 100 code) before after

-- what the record in the memory makes of a call
abbrev pub left_in : Memory → Export → Left
left_in m e = left (record_in m) e.call

-- numbers that are no sender's are refused, whatever the call; else the record answers
unfoldable pub code_of : Memory → Export → ℕ
code_of m e = cond (eqb (numbers_code m.numbers) 0) (paper_code (left_in m e).answer) (numbers_code m.numbers)

unfoldable pub memory_says : Memory → Export → Coded
memory_says m e = coded_as (code_of m e) (unless_refused (code_of m e) (room_lent e.call) (left_in m e).room) (unless_refused (code_of m e) e.told (tells (left_in m e).answer e.told))

unfoldable pub memory_next : Memory → Export → Memory
memory_next m e = unless_refused (code_of m e) m (laid_out (left_in m e).modulator)

abbrev pub memory : Machine Memory Export Coded
memory = record { next = memory_next; says = memory_says }

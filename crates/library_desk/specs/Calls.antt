-- The desk's exports as a machine over the memory that a caller lends: what each call answers, and what it leaves in every place. Assumes nothing.
use Rattle.std.specs.Prelude.{◌≡◌, Bool, true, false, cond, List, [], ℕ, eqb, replicate, Float}
use Rattle.machine.specs.Runs.{Machine}
use Rattle.demodulator.specs.Record.{fresh}
use Rattle.demodulator.specs.Calls.{is_refusal}
use Rattle.desk.specs.Listing.{refused_list, lines}
use Rattle.desk_run.specs.Seat.{SeatCall, opening, giving, closing, seat_says, seat_next, room_for}
use Rattle.desk_run.specs.Desk.{DeskCall, at, listing, DeskTold, seat_told, list_told_lem, seat_of, desk_says}
use Rattle.library_receiver.specs.Memory as Receiver
use Rattle.library_receiver.specs.Memory.{paper_code, told_after, gain_after}
use Rattle.library_desk.specs.Memory.{Memory, memory_at, part_at, with_part, with_flag, desk_in}
use Rattle.library_desk.specs.Passage.{no_desk}
use Rattle.library_desk.specs.Listing.{list_code_lem, lines_after}

-- ---- a call, with what is lent beside the desk: the places for a stretch's numbers, for an offer's gain, and for the listing
pub record Export : Type 0 where
  pub call : DeskCall
  pub told : List ℕ
  pub gain : List Float
  pub lines : List ℕ

abbrev pub export_of : DeskCall → List ℕ → List Float → List ℕ → Export
export_of c told gain rows = record { call = c; told = told; gain = gain; lines = rows }

-- what it is answered with: the code, and what the room and these places then hold
pub record Coded : Type 0 where
  pub code : ℕ
  pub room : List Float
  pub told : List ℕ
  pub gain : List Float
  pub lines : List ℕ

abbrev pub coded_as : ℕ → List Float → List ℕ → List Float → List ℕ → Coded
coded_as code room told gain rows = record { code = code; room = room; told = told; gain = gain; lines = rows }

-- a desk's answer
abbrev pub coded : Export → DeskTold → Coded
coded e (seat_told t) = coded_as (paper_code t.answer) t.room (told_after t.answer t.fed e.told) (gain_after t.answer e.gain) e.lines
coded e (list_told_lem l) = coded_as (list_code_lem l) [] e.told e.gain (lines_after l e.lines)

abbrev pub refuses : DeskTold → Bool
refuses (seat_told t) = is_refusal t.answer
refuses (list_told_lem (refused_list why)) = true
refuses (list_told_lem (lines ls)) = false

-- the room that is lent with a call
abbrev pub lent_with : DeskCall → List Float
lent_with (at s c) = room_for c
lent_with listing = []

-- "Every refusal returns its number only, with record and buffers as they were"
abbrev pub untouched : ℕ → Export → Coded
untouched code e = coded_as code (lent_with e.call) e.told e.gain e.lines

-- ---- the memory after a call that is not refused: of its own seat's places only those that the call may change
abbrev pub left_at : Memory → ℕ → SeatCall → Memory
left_at m s (opening rate) = with_flag s 1 (with_part s (Receiver.laid_out (fresh rate)) m)
left_at m s (giving c) =
    let x = seat_of (desk_in m) s in
    with_part s (Receiver.laid_after (seat_says x (giving c)).answer (part_at m s) (seat_next x (giving c)).receiver) m
left_at m s closing = with_flag s 0 m

abbrev pub left_by : Memory → DeskCall → Memory
left_by m (at s c) = left_at m s c
left_by m listing = m

-- what is no desk is refused before all else; else what the desk that the memory makes answers, coded
unfoldable pub memory_says : Memory → Export → Coded
memory_says m e = cond (eqb (no_desk m e.call) 0) (coded e (desk_says (desk_in m) e.call)) (untouched (no_desk m e.call) e)

unfoldable pub memory_next : Memory → Export → Memory
memory_next m e = cond (eqb (no_desk m e.call) 0) (cond (refuses (desk_says (desk_in m) e.call)) m (left_by m e.call)) m

abbrev pub memory : Machine Memory Export Coded
memory = record { next = memory_next; says = memory_says }

-- ---- what each export promises: what the machine says, and leaves
pub record Says (m : Memory) (e : Export) (a : Coded) (after : Memory) : Type 0 where
  pub answers : a ≡ memory_says m e
  pub leaves : after ≡ memory_next m e

-- a fresh desk: all seats are closed, and their receivers are not read
abbrev pub fresh_memory : Memory
fresh_memory =
    let p = Receiver.laid_out (fresh 48000) in
    memory_at (replicate 8 p.window) (replicate 8 p.ring) (replicate 8 p.numbers) (replicate 8 p.levels) (replicate 8 0)

pub record M17DeskNewSays (code : ℕ) (after : Memory) : Type 0 where
  pub answers : code ≡ 0
  pub leaves : after ≡ fresh_memory

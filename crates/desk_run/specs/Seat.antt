-- One seat as a machine: what a call for it answers and leaves, whatever its record, made-up ones too. Assumes nothing.
use Rattle.std.specs.Prelude.{Bool, true, false, cond, List, [], ℕ, Float}
use Rattle.machine.specs.Runs.{Machine}
use Rattle.shaping.specs.Rate.{rate_fit, samples_in_lem}
use Rattle.protocol.specs.Refusals.{bare}
use Rattle.demodulator.specs.declared.SoftDemodulator.{SoftDemodulator}
use Rattle.demodulator.specs.Record.{fresh}
use Rattle.demodulator.specs.Fit.{record_fit_lem, unfit_number}
use Rattle.demodulator.specs.Calls.{Paper, refusal, done, made}
use Rattle.demodulator_run.specs.Rules.{sample, reply, query}
use Rattle.demodulator_run.specs.Calls.{Call, one, stretch, Told, receiver, Given}
use Rattle.desk.specs.Passage.{seat_closed, seat_is_open}

-- "each seat has its own receiver"
pub record Seat : Type 0 where
  pub opened : Bool
  pub receiver : SoftDemodulator

-- "Open, feed, reply, close": a stretch of samples, a reply and a query of the carrier are the receiver's own calls
pub data SeatCall : Type 0 where
  opening : ℕ → SeatCall
  giving : Call → SeatCall
  closing : SeatCall

abbrev pub told : Paper → Told
told a = record { answer = a; fed = 0; room = [] }

-- "Every refusal returns its number only, with record and buffers as they were"
abbrev pub room_of : Call → List Float
room_of (one (sample x room)) = room
room_of (one (reply r)) = []
room_of (one query) = []
room_of (stretch xs room) = room

abbrev pub turned_away : Paper → Call → Told
turned_away why c = record { answer = why; fed = 0; room = room_of c }

-- "started anew when its exercise opens"
abbrev pub started : ℕ → Seat
started rate = record { opened = true; receiver = fresh rate }

-- "changed in place as samples arrive for that seat"
abbrev pub with_receiver : SoftDemodulator → Seat
with_receiver m = record { opened = true; receiver = m }

-- of a close: it gives no sample and no reply, and "tests no filtered value"
abbrev pub fit : SoftDemodulator → Bool
fit m = record_fit_lem (samples_in_lem m.rate) m

unfoldable pub seat_says : Seat → SeatCall → Told
-- 20 "seat open", then 15
seat_says s (opening rate) = told (cond s.opened seat_is_open (made rate).answer)
-- 19 "seat closed", then the receiver's own
seat_says s (giving c) = cond s.opened (receiver.says s.receiver c) (turned_away seat_closed c)
seat_says s closing = told (cond s.opened (cond (fit s.receiver) done (refusal (bare (unfit_number s.receiver)))) seat_closed)

unfoldable pub seat_next : Seat → SeatCall → Seat
seat_next s (opening rate) = cond s.opened s (cond (rate_fit rate) (started rate) s)
seat_next s (giving c) = cond s.opened (with_receiver (receiver.next s.receiver c)) s
seat_next s closing = cond s.opened (cond (fit s.receiver) (record { opened = false; receiver = s.receiver }) s) s

abbrev pub seat : Machine Seat SeatCall Told
seat = record { next = seat_next; says = seat_says }

-- what a caller can give: each sample is an i16's value
unfoldable pub SeatGiven : SeatCall → Type 0
SeatGiven (opening rate) = Unit {0}
SeatGiven (giving c) = Given c
SeatGiven closing = Unit {0}

-- the room that is lent with a call
abbrev pub room_for : SeatCall → List Float
room_for (opening rate) = []
room_for (giving c) = room_of c
room_for closing = []

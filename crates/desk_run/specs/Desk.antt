-- The desk as a machine over its record: "eight seats share one desk record". Assumes nothing.
use Rattle.std.specs.Prelude.{◌≡◌, cond, List, ℕ, ltb, length, set}
use Rattle.machine.specs.Runs.{Machine}
use Rattle.protocol.specs.Refusals.{PaperRefusal}
use Rattle.demodulator.specs.Calls.{refusal}
use Rattle.demodulator_run.specs.Calls.{Told}
use Rattle.desk.specs.declared.Desk.{Desk}
use Rattle.desk.specs.Desk.{is_open, receiver_at}
use Rattle.desk.specs.Passage.{no_such_seat}
use Rattle.desk.specs.Listing.{PaperList, refused_list, listed}
use Rattle.desk_run.specs.Seat.{Seat, SeatCall, opening, giving, closing, told, turned_away, seat_says, seat_next, SeatGiven}

pub data DeskCall : Type 0 where
  at : ℕ → SeatCall → DeskCall
  listing : DeskCall

pub data DeskTold : Type 0 where
  seat_told : Told → DeskTold
  list_told_lem : PaperList → DeskTold

abbrev pub seat_of : Desk → ℕ → Seat
seat_of d s = record { opened = is_open d.opened s; receiver = receiver_at d s }

abbrev pub with_seat : ℕ → Seat → Desk → Desk
with_seat s x d = record { opened = set d.opened s x.opened; receivers = set d.receivers s x.receiver }

-- 18 "seat above 7"
abbrev pub outside : SeatCall → Told
outside (opening rate) = told no_such_seat
outside (giving c) = turned_away no_such_seat c
outside closing = told no_such_seat

-- "the listing of all seats is the one call that reads others"
unfoldable pub desk_says : Desk → DeskCall → DeskTold
desk_says d (at s c) = seat_told (cond (ltb 7 s) (outside c) (seat_says (seat_of d s) c))
desk_says d listing = list_told_lem (listed d)

unfoldable pub desk_next : Desk → DeskCall → Desk
desk_next d (at s c) = cond (ltb 7 s) d (with_seat s (seat_next (seat_of d s) c) d)
desk_next d listing = d

abbrev pub desk : Machine Desk DeskCall DeskTold
desk = record { next = desk_next; says = desk_says }

-- ---- words for the theorems
unfoldable pub DeskGiven : DeskCall → Type 0
DeskGiven (at s c) = SeatGiven c
DeskGiven listing = Unit {0}

-- eight seats: what the lengths of every desk's arrays are
unfoldable pub Whole : Desk → Type 0
Whole d = (length d.opened ≡ 8) × (length d.receivers ≡ 8)

unfoldable pub RefusedBy : DeskTold → PaperRefusal → Type 0
RefusedBy (seat_told t) why = t.answer ≡ refusal why
RefusedBy (list_told_lem l) why = l ≡ refused_list why

unfoldable pub Opening : DeskCall → Type 0
Opening (at s (opening rate)) = Unit {0}
Opening (at s (giving c)) = ⊥
Opening (at s closing) = ⊥
Opening listing = ⊥

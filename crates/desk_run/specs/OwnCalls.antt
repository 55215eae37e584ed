-- "calls to that seat": a seat's own calls among all, and the answers to them. Assumes nothing.
use Rattle.std.specs.Prelude.{cond, List, [], ◌∷◌, ◌++◌, map, ℕ, eqb}
use Rattle.machine.specs.Runs.{run}
use Rattle.demodulator_run.specs.Calls.{Told}
use Rattle.desk.specs.Desk.{fresh_desk}
use Rattle.desk.specs.Listing.{PaperLine, line_of}
use Rattle.desk_run.specs.Seat.{Seat, SeatCall, seat}
use Rattle.desk_run.specs.Desk.{DeskCall, at, listing, DeskTold, seat_told, list_told_lem, seat_of}

abbrev pub own_call : ℕ → DeskCall → List SeatCall
own_call s (at t c) = cond (eqb t s) (c ∷ []) []
own_call s listing = []

unfoldable pub own_calls : ℕ → List DeskCall → List SeatCall
own_calls s [] = []
own_calls s (c ∷ cs) = own_call s c ++ own_calls s cs

abbrev pub told_of : DeskTold → List Told
told_of (seat_told t) = t ∷ []
told_of (list_told_lem l) = []

abbrev pub own_told : ℕ → DeskCall → DeskTold → List Told
own_told s (at t c) a = cond (eqb t s) (told_of a) []
own_told s listing a = []

unfoldable pub own_answers : ℕ → List DeskCall → List DeskTold → List Told
own_answers s [] ts = []
own_answers s (c ∷ cs) [] = []
own_answers s (c ∷ cs) (a ∷ ts) = own_told s c a ++ own_answers s cs ts

-- calls that are one seat's alone
abbrev pub alone : ℕ → List SeatCall → List DeskCall
alone s us = map (λ (c : SeatCall). at s c) us

-- a seat's line in the listing, by its own calls since the fresh desk
abbrev pub line_by : Seat → PaperLine
line_by x = line_of x.opened x.receiver

abbrev pub own_line : List DeskCall → ℕ → PaperLine
own_line cs s = line_by (run seat (seat_of fresh_desk s) (own_calls s cs))

abbrev pub own_lines : List DeskCall → List PaperLine
own_lines cs = own_line cs 0 ∷ own_line cs 1 ∷ own_line cs 2 ∷ own_line cs 3 ∷ own_line cs 4 ∷ own_line cs 5 ∷ own_line cs 6 ∷ own_line cs 7 ∷ []

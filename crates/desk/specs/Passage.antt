-- "18 seat above 7, 19 seat closed .. in that order, before the receiver's own": what becomes of a call for an open seat. Assumes nothing.
use Rattle.protocol.specs.declared.Refusal.{Refusal}
use Rattle.std.specs.Prelude.{Bool, cond, List, ℕ, ltb, Result, Ok, Err}
use Rattle.protocol.specs.Refusals.{bare, on_paper}
use Rattle.demodulator.specs.Calls.{Paper, refusal}
use Rattle.desk.specs.Desk.{is_open}

-- "Refusals: 18 seat above 7, 19 seat closed, 20 seat open"
abbrev pub no_such_seat : Paper
no_such_seat = refusal (bare 18)

abbrev pub seat_closed : Paper
seat_closed = refusal (bare 19)

abbrev pub seat_is_open : Paper
seat_is_open = refusal (bare 20)

-- turned away, or on to the receiver
pub data Entered : Type 0 where
  turned : Paper → Entered
  goes : Entered

unfoldable pub entered : List Bool → ℕ → Entered
entered flags s = cond (ltb 7 s) (turned no_such_seat) (cond (is_open flags s) goes (turned seat_closed))

abbrev pub gate_paper : Result Unit Refusal → Entered
gate_paper (Ok _) = goes
gate_paper (Err why) = turned (refusal (on_paper why))

-- A session, computed: 15, opened, 20, 18, 19, another seat opened at the other rate, the carrier, closed, 19, and the listing. Assumes nothing.
use mathlib.Core.Path.{◌≡◌, refl}
use mathlib.Core.Bool.{false}
use mathlib.Core.List.{List, [], ◌∷◌}
use Rattle.machine.specs.Runs.{answers, Each}
use Rattle.protocol.specs.Refusals.{bare}
use Rattle.numbers.specs.Below.{any_below, all_below}
use Rattle.search.specs.Fit.{control_fit_lem, candidate_fit_lem, wait_fit_lem}
use Rattle.demodulator.specs.Record.{fresh}
use Rattle.demodulator.specs.Fit.{record_fit_lem, halves_agree_lem}
use Rattle.demodulator.specs.Calls.{Paper, refusal, done, carrier, made, detected}
use Rattle.demodulator_run.specs.Rules.{query}
use Rattle.demodulator_run.specs.Run.{left_at, Callable}
use Rattle.demodulator_run.specs.Calls.{one, record_next, told_by, Given}
use Rattle.desk.specs.Desk.{fresh_desk}
use Rattle.desk.specs.Listing.{shut, busy, lines, listed, any_strange, any_unfit}
use Rattle.desk_run.specs.Seat.{opening, giving, closing, seat_says, seat_next, told, SeatGiven}
use Rattle.desk_run.specs.Desk.{DeskCall, at, listing, DeskTold, seat_told, list_told_lem, desk_says, desk_next, desk, DeskGiven}

abbrev pub script : List DeskCall
script =
    at 3 (opening 44100) ∷ at 3 (opening 48000) ∷ at 3 (opening 24000) ∷ at 8 (opening 48000) ∷ at 2 closing ∷ at 4 (opening 24000) ∷ at 3 (giving (one query)) ∷ at 3 closing
    ∷ at 3 closing ∷ listing ∷ []

abbrev says : Paper → DeskTold
says a = seat_told (told a)

pub worked : answers desk fresh_desk script
    ≡ says (refusal (bare 15)) ∷ says done ∷ says (refusal (bare 20)) ∷ says (refusal (bare 18)) ∷ says (refusal (bare 19)) ∷ says done ∷ says (carrier false) ∷ says done
    ∷ says (refusal (bare 19)) ∷ list_told_lem (lines (shut ∷ shut ∷ shut ∷ shut ∷ busy 0 false ∷ shut ∷ shut ∷ shut ∷ [])) ∷ []
unfolding answers desk_says desk_next seat_says seat_next made record_next told_by left_at detected record_fit_lem halves_agree_lem all_below any_below control_fit_lem candidate_fit_lem wait_fit_lem fresh listed any_strange any_unfit
worked = refl

-- a caller can give it
pub worked_given : Each DeskGiven script
unfolding Each DeskGiven SeatGiven Given Callable
worked_given = (tt, (tt, (tt, (tt, (tt, (tt, (tt, (tt, (tt, (tt, tt))))))))))

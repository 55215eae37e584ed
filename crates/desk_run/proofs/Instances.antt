-- Instances of what the theorems ask: a seat that is closed and opened again at the other rate, its replay at another seat of another desk, and refused calls. Assumes nothing.
use Rattle.std.specs.Prelude.{Err}
use mathlib.Core.Path.{◌≡◌, refl}
use mathlib.Core.Bool.{true, false}
use mathlib.Core.List.{List, [], ◌∷◌, ◌++◌}
use lib.ListN.{set, replicate}
use native.Mathlib.Omega.{arith}
use borrow.Author.Tests.{eqb-false}
use Rattle.machine.specs.Runs.{run, answers, Each}
use Rattle.numbers.specs.Below.{all_below}
use Rattle.shaping.specs.Rate.{rate_of}
use Rattle.protocol.specs.Refusals.{bare}
use Rattle.protocol.specs.declared.Refusal.TheVariants.{NoSuchSeat}
use Rattle.search.specs.Fit.{control_fit_lem, candidate_fit_lem, wait_fit_lem}
use Rattle.demodulator.specs.Record.{fresh}
use Rattle.demodulator.specs.Fit.{record_fit_lem, halves_agree_lem}
use Rattle.demodulator.specs.Calls.{done, made}
use Rattle.demodulator_run.specs.Rules.{query, start}
use Rattle.demodulator_run.specs.Run.{Callable}
use Rattle.demodulator_run.specs.Calls.{one, Given, rules}
use Rattle.desk.specs.declared.Desk.{Desk}
use Rattle.desk.specs.Desk.{fresh_desk}
use Rattle.desk.specs.Passage.{no_such_seat, entered}
use Rattle.desk.specs.Listing.{lines}
use Rattle.desk_run.specs.Seat.{SeatCall, opening, giving, closing, seat, seat_says, seat_next, told, SeatGiven}
use Rattle.desk_run.specs.Desk.{DeskCall, at, listing, seat_told, list_told_lem, desk, seat_of, desk_says, desk_next, DeskGiven, Whole, RefusedBy, Opening}
use Rattle.desk_run.specs.OwnCalls.{own_calls, own_answers, own_lines}
use Rattle.desk_run.specs.Session.{Promised, Session}
use Rattle.desk_run.proofs.SeatRun.{others_kept}
use Rattle.desk_run.proofs.Refused.{desk_kept, number_only}
use Rattle.desk_run.proofs.Sessions.{session_is}
use Rattle.desk_run.proofs.Isolation.{isolation, since_last_open, replay, seat_by_rules}
use Rattle.desk_run.proofs.NeverUnfit.{desk_listed, desk_fifteen}
use Rattle.desk_run.proofs.Worked.{script, worked_given}

-- seat 3 opens, closes and opens again; seat 4 is called between
abbrev twice : List DeskCall
twice = at 3 (opening 48000) ∷ at 4 (opening 24000) ∷ at 3 closing ∷ at 3 (opening 24000) ∷ at 4 (giving (one query)) ∷ at 3 (giving (one query)) ∷ []

abbrev first_time : List SeatCall
first_time = opening 48000 ∷ closing ∷ []

abbrev second_time : List SeatCall
second_time = giving (one query) ∷ []

-- a desk on which seat 5 is open
abbrev other : Desk
other = record { opened = set (replicate 8 false) 5 true; receivers = replicate 8 (fresh 48000) }

eight : Whole fresh_desk × Whole other
unfolding Whole
eight = ((refl, refl), (refl, refl))

closed_then : (run seat (seat_of fresh_desk 3) first_time).opened ≡ false
unfolding run seat_next record_fit_lem halves_agree_lem all_below control_fit_lem candidate_fit_lem wait_fit_lem fresh
closed_then = refl

-- ---- since-last-open and replay
own_then : own_calls 3 twice ≡ first_time ++ opening 24000 ∷ second_time
unfolding own_calls
own_then = refl

pub opened_again : own_answers 3 twice (answers desk fresh_desk twice)
    ≡ answers seat (seat_of fresh_desk 3) first_time ++ told done ∷ answers seat (record { opened = true; receiver = fresh 24000 }) second_time
opened_again = since_last_open 3 (omega arith) fresh_desk eight.0 twice first_time second_time 24000 own_then closed_then refl

abbrev elsewhere : List DeskCall
elsewhere = at 6 (opening 24000) ∷ at 5 closing ∷ at 6 (giving (one query)) ∷ []

own_elsewhere : own_calls 6 elsewhere ≡ opening 24000 ∷ second_time
unfolding own_calls
own_elsewhere = refl

pub replayed_elsewhere : own_answers 3 twice (answers desk fresh_desk twice) ≡ answers seat (seat_of fresh_desk 3) first_time ++ own_answers 6 elsewhere (answers desk other elsewhere)
replayed_elsewhere =
    replay 3 (omega arith) fresh_desk eight.0 twice first_time second_time 24000 own_then closed_then refl 6 (omega arith) other eight.1 elsewhere own_elsewhere refl

-- ---- isolation: seat 4, with other calls for the other seats
abbrev apart : List DeskCall
apart = at 5 closing ∷ at 4 (opening 24000) ∷ listing ∷ at 4 (giving (one query)) ∷ []

own_apart : own_calls 4 twice ≡ own_calls 4 apart
unfolding own_calls
own_apart = refl

pub apart_alike : own_answers 4 twice (answers desk fresh_desk twice) ≡ own_answers 4 apart (answers desk other apart)
apart_alike = isolation 4 (omega arith) fresh_desk other eight.0 eight.1 twice apart refl own_apart

-- ---- a seat by the rules
own_fourth : own_calls 4 twice ≡ opening 24000 ∷ giving (one query) ∷ []
unfolding own_calls
own_fourth = refl

shut_fourth : (run seat (seat_of fresh_desk 4) []).opened ≡ false
unfolding run
shut_fourth = refl

query_given : Each Given (one query ∷ [])
unfolding Each Given Callable
query_given = (tt, tt)

pub fourth_by_rules : own_answers 4 twice (answers desk fresh_desk twice) ≡ answers seat (seat_of fresh_desk 4) [] ++ told done ∷ answers (rules (rate_of 24000)) start (one query ∷ [])
fourth_by_rules = seat_by_rules 4 (omega arith) fresh_desk eight.0 twice [] (one query ∷ []) 24000 own_fourth shut_fourth refl query_given

-- ---- the other seats, and refused calls
pub third_kept : seat_of (desk_next fresh_desk (at 4 (opening 24000))) 3 ≡ seat_of fresh_desk 3
third_kept = others_kept fresh_desk 3 4 (opening 24000) (eqb-false 4 3 refl)

ninth_refused : RefusedBy (desk_says fresh_desk (at 9 closing)) (bare 18)
unfolding RefusedBy desk_says
ninth_refused = refl

pub ninth_kept : (desk_next fresh_desk (at 9 closing) ≡ fresh_desk) × (desk_says fresh_desk (at 9 closing) ≡ seat_told (told no_such_seat))
ninth_kept = (desk_kept fresh_desk (at 9 closing) (bare 18) ninth_refused, number_only fresh_desk 9 closing (bare 18) ninth_refused)

-- the function itself, called once
close_called : Session fresh_desk (at 9 closing ∷ []) (seat_told (told no_such_seat) ∷ []) fresh_desk
unfolding Session Promised entered
close_called = (seat_told (told no_such_seat), fresh_desk, [], (Err NoSuchSeat, record { answers = refl; leaves = refl }, refl), (refl, refl), refl)

pub close_is : (seat_told (told no_such_seat) ∷ [] ≡ answers desk fresh_desk (at 9 closing ∷ [])) × (fresh_desk ≡ run desk fresh_desk (at 9 closing ∷ []))
close_is = session_is (at 9 closing ∷ []) fresh_desk (seat_told (told no_such_seat) ∷ []) fresh_desk close_called

-- ---- from a fresh desk
pub script_listed : desk_says (run desk fresh_desk script) listing ≡ list_told_lem (lines (own_lines script))
script_listed = desk_listed script worked_given

strange_refused : RefusedBy (desk_says (run desk fresh_desk []) (at 3 (opening 44100))) (bare 15)
unfolding RefusedBy desk_says run seat_says made
strange_refused = refl

none_given : Each DeskGiven []
unfolding Each
none_given = tt

strange_given : DeskGiven (at 3 (opening 44100))
unfolding DeskGiven SeatGiven
strange_given = tt

pub strange_is_open : Opening (at 3 (opening 44100))
strange_is_open = desk_fifteen [] none_given (at 3 (opening 44100)) strange_given strange_refused

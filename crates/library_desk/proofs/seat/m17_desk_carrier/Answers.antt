-- `m17_desk_carrier` meets its contract. Assumes nothing.
use mathlib.Core.List.{[]}
use Rattle.demodulator.specs.Singles.{query}
use Rattle.demodulator_run.specs.Calls.{one}
use Rattle.desk_run.specs.Seat.{giving}
use Rattle.library_desk.proofs.InSeat.{far}
use Rattle.library_desk.proofs.Entry.{below, gives, turned_away, goes_on}
use Rattle.library_desk.proofs.Given.{carrier_says}
use Rattle.library_desk.proofs.seat.m17_desk_carrier.Goals as goal

pub returns-then-seat-gt7 : goal.returns-then-seat-gt7
returns-then-seat-gt7 c = far _ _ [] [] [] c.if-seat-gt7.true (giving (one query))

pub returns-then-turned-gt0 : goal.returns-then-turned-gt0
returns-then-turned-gt0 c = turned_away _ _ (below c.if-seat-gt7.false) (gives (one query)) [] [] [] _ c.turn_away-turned.ensures c.if-turned-gt0.true

pub returns : goal.returns
returns c = carrier_says _ _ (below c.if-seat-gt7.false) (goes_on _ _ c.turn_away-turned.ensures c.if-turned-gt0.false) _ c.m17_receiver_carrier.ensures

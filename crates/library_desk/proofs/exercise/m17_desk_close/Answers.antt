-- `m17_desk_close` meets its contract. Assumes nothing.
use mathlib.Core.Path.{ap}
use mathlib.Core.List.{[]}
use Rattle.desk_run.specs.Seat.{closing}
use Rattle.library_receiver.specs.Memory.{Coded}
use Rattle.library_desk.proofs.InSeat.{far}
use Rattle.library_desk.proofs.Entry.{below, closes, turned_away, goes_on}
use Rattle.library_desk.proofs.OpenAndClose.{close_refused, close_done}
use Rattle.library_desk.proofs.exercise.m17_desk_close.Goals as goal

pub returns-then-seat-gt7 : goal.returns-then-seat-gt7
returns-then-seat-gt7 c = far _ _ [] [] [] c.if-seat-gt7.true closing

pub returns-then-turned-gt0 : goal.returns-then-turned-gt0
returns-then-turned-gt0 c = turned_away _ _ (below c.if-seat-gt7.false) closes [] [] [] _ c.turn_away-turned.ensures c.if-turned-gt0.true

pub returns-then-code-ge100 : goal.returns-then-code-ge100
returns-then-code-ge100 c =
    let code = ap (λ (x : Coded). x.code) (c.m17_receiver_carrier-code.ensures _).answers in
    close_refused _ _ (below c.if-seat-gt7.false) (goes_on _ _ c.turn_away-turned.ensures c.if-turned-gt0.false) _ code c.if-code-ge100.true

pub returns : goal.returns
returns c =
    let code = ap (λ (x : Coded). x.code) (c.m17_receiver_carrier-code.ensures _).answers in
    close_done _ _ (below c.if-seat-gt7.false) (goes_on _ _ c.turn_away-turned.ensures c.if-turned-gt0.false) _ code c.if-code-ge100.false

-- `m17_desk_open` meets its contract. Assumes nothing.
use mathlib.Core.List.{[]}
use Rattle.desk_run.specs.Seat.{opening}
use Rattle.library_desk.proofs.InSeat.{far}
use Rattle.library_desk.proofs.Entry.{below}
use Rattle.library_desk.proofs.OpenAndClose.{zero_flag, open_stray, open_open, open_refused, open_done}
use Rattle.library_desk.proofs.exercise.m17_desk_open.Goals as goal

pub returns-then-seat-gt7 : goal.returns-then-seat-gt7
returns-then-seat-gt7 c = far _ _ [] [] [] c.if-seat-gt7.true (opening _)

pub returns-then-flag-gt1 : goal.returns-then-flag-gt1
returns-then-flag-gt1 c = open_stray _ _ (below c.if-seat-gt7.false) _ c.if-flag-gt1.true

pub returns-then-flag-eq1 : goal.returns-then-flag-eq1
returns-then-flag-eq1 c = open_open _ _ (below c.if-seat-gt7.false) _ c.if-flag-eq1.true

pub returns-then-code-ge100 : goal.returns-then-code-ge100
returns-then-code-ge100 c = open_refused _ _ (below c.if-seat-gt7.false) _ (zero_flag _ c.if-flag-gt1.false c.if-flag-eq1.false) _ _ c.m17_receiver_new-code.ensures c.if-code-ge100.true

pub returns : goal.returns
returns c = open_done _ _ (below c.if-seat-gt7.false) _ (zero_flag _ c.if-flag-gt1.false c.if-flag-eq1.false) _ _ c.m17_receiver_new-code.ensures c.if-code-ge100.false

-- `push_symbols` meets its contract: what is ready is sent, all else is given back. Assumes nothing.
use Prim.Native.Nat.{◌/◌, ◌≤◌}
use native.Mathlib.Omega.{arith}
use lib.ListN.{length}
use Rattle.pulse.proofs.Ready.{fit_by, counts_by, unfit_by, room_short, room_enough, sent_by, no_rate, past_window, short_room}
use Rattle.pulse.proofs.push_symbols.Goals as goal

pub returns-in_default : goal.returns-in_default
returns-in_default c = no_rate _ _ _ _ _ (unfit_by c.args.rate c.in_default.ensures)

pub returns-then-samples-cursor : goal.returns-then-samples-cursor
returns-then-samples-cursor c =
    let says = c.in-Some.ensures in
    past_window _ _ _ _ _ (fit_by c.args.rate _ says) _ (counts_by c.args.rate _ says) (omega arith)

pub returns-then-room-samples : goal.returns-then-room-samples
returns-then-room-samples c =
    let says = c.in-Some.ensures in
    short_room _ _ _ _ _ (fit_by c.args.rate _ says) _ (counts_by c.args.rate _ says) (room_short _ _ _ (omega arith) (rw c.samples-2.ensures at c.if-room-samples.true))

pub returns : goal.returns
returns c =
    let says = c.in-Some.ensures in
    let enough : length c.args.symbols.now ≤ length c.args.room.now / c.samples-2.result = omega (arith, c.if-room-samples.false) in
    sent_by _ _ _ _ _ c.in-Some.p (counts_by c.args.rate _ says) (fit_by c.args.rate _ says) (omega arith) (room_enough _ _ _ (omega arith) (rw c.samples-2.ensures at enough)) _ _ _ c.push_ready.ensures

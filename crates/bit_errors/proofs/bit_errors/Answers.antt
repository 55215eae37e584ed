-- `bit_errors` meets its contract. Assumes nothing.
use lib.ListN.{length}
use borrow.Author.Tests.{eq-eqb, ne_eqb}
use Rattle.bit_errors.specs.Errors.{bit_errors_lem}
use Rattle.bit_errors.proofs.bit_errors.Goals as goal
use Rattle.bit_errors.proofs.bit_errors.Goals.{then-sent-ne-PAYLOAD-via-then-sent-ne-PAYLOAD, then-sent-ne-PAYLOAD-via-else-sent-ne-PAYLOAD+then-received-ne-PAYLOAD}

pub returns-then-sent-ne-PAYLOAD : goal.returns-then-sent-ne-PAYLOAD
unfolding bit_errors_lem
returns-then-sent-ne-PAYLOAD c =
    let a = c.args in
    elim c.then-sent-ne-PAYLOAD.branch [ then-sent-ne-PAYLOAD-via-then-sent-ne-PAYLOAD w ↦ rw (ne_eqb (length a.sent.now) 184 w.if-sent-ne-PAYLOAD.true) | then-sent-ne-PAYLOAD-via-else-sent-ne-PAYLOAD+then-received-ne-PAYLOAD w ↦ rw (eq-eqb (length a.sent.now) 184 w.if-sent-ne-PAYLOAD.false, ne_eqb (length a.received.now) 184 w.if-received-ne-PAYLOAD.true) ]

pub returns : goal.returns
unfolding bit_errors_lem
returns c =
    let a = c.args in
    rw (eq-eqb (length a.sent.now) 184 c.if-sent-ne-PAYLOAD.false, eq-eqb (length a.received.now) 184 c.if-received-ne-PAYLOAD.false, c.counted.ensures)

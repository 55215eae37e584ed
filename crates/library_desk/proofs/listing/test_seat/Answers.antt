-- `test_seat` meets its contract. Assumes nothing.
use Rattle.library_receiver.specs.Memory.{Coded}
use Rattle.library_desk.proofs.SeatTests.{tested_refused, tested_fit}
use mathlib.Core.Path.{refl, ap}
use borrow.Author.Tests.{eq-eqb, ne_eqb, lt-ltb}
use Rattle.library_desk.specs.Listing.{seat_code}
use Rattle.library_desk.proofs.listing.test_seat.Goals as goal

-- src/listing.rt:27:9
pub returns-then-flag-eq0 : goal.returns-then-flag-eq0
unfolding seat_code
returns-then-flag-eq0 c ring = rw (eq-eqb _ 0 c.if-flag-eq0.true) refl

-- src/listing.rt:30:9
pub returns-then-flag-gt1 : goal.returns-then-flag-gt1
unfolding seat_code
returns-then-flag-gt1 c ring = rw (ne_eqb _ 0 c.if-flag-eq0.false, lt-ltb 1 _ c.if-flag-gt1.true) refl

-- src/listing.rt:34:9
pub returns-then-code-ge100 : goal.returns-then-code-ge100
returns-then-code-ge100 c ring =
    let code = ap (λ (x : Coded). x.code) (c.m17_receiver_carrier-code.ensures ring).answers in
    tested_refused _ _ c.if-flag-eq0.false c.if-flag-gt1.false _ code c.if-code-ge100.true

-- src/listing.rt:23:1
pub returns : goal.returns
returns c ring =
    let code = ap (λ (x : Coded). x.code) (c.m17_receiver_carrier-code.ensures ring).answers in
    tested_fit _ _ c.if-flag-eq0.false c.if-flag-gt1.false _ code c.if-code-ge100.false

-- `open_desk` meets its contract. Assumes nothing.
use mathlib.Core.Path.{refl, sym, ap, ◌∙◌}
use mathlib.Core.Bool.{true, false}
use borrow.Author.Tests.{lt-ltb, le-ltb}
use Prim.Native.Nat.{ℕ}
use lib.ListN.{set}
use Rattle.demodulator.specs.declared.SoftDemodulator.{SoftDemodulator}
use Rattle.demodulator.specs.Calls.{made}
use Rattle.desk.specs.declared.Desk.{Desk}
use Rattle.desk.specs.Calls.{open_answer, open_leaves}
use Rattle.desk.proofs.SeatLaws.{open_is_open, open_by_rate}
use Rattle.desk.proofs.exercise.open_desk.Goals as goal

abbrev with_fresh : Desk → ℕ → SoftDemodulator → Desk
with_fresh d s m = record { opened = set d.opened s true; receivers = set d.receivers s m }

pub returns-then-seat-gt7 : goal.returns-then-seat-gt7
unfolding open_answer open_leaves
returns-then-seat-gt7 c = let out = lt-ltb _ _ c.if-seat-gt7.true in record { answers = rw out refl; leaves = rw out refl }

pub returns-then-desk-seat : goal.returns-then-desk-seat
returns-then-desk-seat c =
    let a = c.args in
    let k = open_is_open a.desk a.seat a.rate (le-ltb _ _ c.if-seat-gt7.false) c.if-desk-seat.true in
    record { answers = sym k.0; leaves = sym k.1 }

pub returns-then-not-is_rate : goal.returns-then-not-is_rate
returns-then-not-is_rate c =
    let a = c.args in
    let k = open_by_rate a.desk a.seat a.rate (le-ltb _ _ c.if-seat-gt7.false) false c.if-desk-seat.false (sym c.is_rate.ensures ∙ c.if-not-is_rate.true) in
    record { answers = sym k.0; leaves = sym k.1 }

pub returns : goal.returns
unfolding made
returns c =
    let a = c.args in
    let k = open_by_rate a.desk a.seat a.rate (le-ltb _ _ c.if-seat-gt7.false) true c.if-desk-seat.false (sym c.is_rate.ensures ∙ c.if-not-is_rate.false) in
    record { answers = sym k.0; leaves = ap (λ (m : SoftDemodulator). with_fresh a.desk a.seat m) c.new-made.ensures.leaves ∙ sym k.1 }

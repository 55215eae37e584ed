-- `m17_receiver_carrier` meets its contract. Assumes nothing.
use Rattle.library_receiver.proofs.Settled.{turned_away, asked}
use borrow.Author.Rules.{rules}
use Rattle.library_receiver.proofs.m17_receiver_carrier.Goals as goal

pub returns-then-unfit-ge100 : goal.returns-then-unfit-ge100
returns-then-unfit-ge100 c = λ ring. turned_away _ _ _ c.record_code-unfit.ensures c.if-unfit-ge100.true

pub returns : goal.returns
returns c =
    λ ring.
    asked _ _ c.record_code-unfit.ensures c.if-unfit-ge100.false c.carrier_lent-answer.result
    (rw c.read_control-control.ensures at c.carrier_lent-answer.ensures) _ c.code_carrier.ensures

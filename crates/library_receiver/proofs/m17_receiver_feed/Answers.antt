-- `m17_receiver_feed` meets its contract. Assumes nothing.
use Rattle.library_receiver.proofs.Settled.{turned_away, fed_refused, fed_moved}
use borrow.Author.Rules.{rules}
use Rattle.library_receiver.proofs.m17_receiver_feed.Goals as goal

pub returns-then-unfit-ge100 : goal.returns-then-unfit-ge100
returns-then-unfit-ge100 c = turned_away _ _ _ c.record_code-unfit.ensures c.if-unfit-ge100.true

pub returns-then-code-ge100 : goal.returns-then-code-ge100
returns-then-code-ge100 c =
    fed_refused _ _ c.record_code-unfit.ensures c.if-unfit-ge100.false _ _ c.feed_lent-after.result _ _ _
    (rw c.read_control-control.ensures at c.feed_lent-after.ensures) _ c.code_heard-code.ensures c.if-code-ge100.true

pub returns : goal.returns
returns c =
    fed_moved _ _ c.record_code-unfit.ensures c.if-unfit-ge100.false _ _ c.feed_lent-after.result _ _ _
    (rw c.read_control-control.ensures at c.feed_lent-after.ensures) _ c.code_heard-code.ensures c.if-code-ge100.false _ _
    c.write_control.ensures _ c.tell_offer-offer.ensures _ c.tell_gain-level.ensures

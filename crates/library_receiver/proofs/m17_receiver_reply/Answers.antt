-- `m17_receiver_reply` meets its contract. Assumes nothing.
use Rattle.library_receiver.proofs.Settled.{turned_away, reply_refused, reply_moved}
use borrow.Author.Rules.{rules}
use Rattle.library_receiver.proofs.m17_receiver_reply.Goals as goal

pub returns-then-unfit-ge100 : goal.returns-then-unfit-ge100
returns-then-unfit-ge100 c = turned_away _ _ _ c.record_code-unfit.ensures c.if-unfit-ge100.true

pub returns-then-code-ge100 : goal.returns-then-code-ge100
returns-then-code-ge100 c =
    reply_refused _ _ c.record_code-unfit.ensures c.if-unfit-ge100.false _ c.reply_lent-after.result
    (rw (c.read_control-control.ensures, c.read_reply-reply.ensures) at c.reply_lent-after.ensures) _ c.code_replied-code.ensures c.if-code-ge100.true

pub returns : goal.returns
returns c =
    reply_moved _ _ c.record_code-unfit.ensures c.if-unfit-ge100.false _ c.reply_lent-after.result
    (rw (c.read_control-control.ensures, c.read_reply-reply.ensures) at c.reply_lent-after.ensures) _ c.code_replied-code.ensures c.if-code-ge100.false _ _ c.write_control.ensures

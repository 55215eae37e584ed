-- `judge_head` meets its contract. Assumes nothing.
use mathlib.Core.Path.{sym, ◌∙◌}
use Rattle.given_symbols.specs.Offender.{headed}
use Rattle.given_symbols.proofs.judge_head.Goals as goal

pub returns-in-Ordinary : goal.returns-in-Ordinary
unfolding headed
returns-in-Ordinary c = rw c.in-Ordinary.is

pub returns-then-has_bert_head : goal.returns-then-has_bert_head
unfolding headed
returns-then-has_bert_head c = rw (c.in-Bert.is, sym c.has_bert_head.ensures ∙ c.if-has_bert_head.true)

pub returns-else-has_bert_head : goal.returns-else-has_bert_head
unfolding headed
returns-else-has_bert_head c = rw (c.in-Bert.is, sym c.has_bert_head.ensures ∙ c.if-has_bert_head.false)

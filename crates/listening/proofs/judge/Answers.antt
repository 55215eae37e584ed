-- `judge` meets its contract. Assumes nothing.
use mathlib.Core.Path.{sym, ◌∙◌}
use Rattle.listening.proofs.Settlement.{judged_good, judged_bad}
use Rattle.listening.proofs.judge.Goals as goal

pub returns-then-is_accepted : goal.returns-then-is_accepted
returns-then-is_accepted c = judged_good _ _ (sym c.is_accepted.ensures ∙ c.if-is_accepted.true)

pub returns : goal.returns
returns c = judged_bad _ _ (sym c.is_accepted.ensures ∙ c.if-is_accepted.false)

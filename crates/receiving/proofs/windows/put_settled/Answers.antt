-- `windows::put_settled` meets its contract. Assumes nothing.
use mathlib.Core.Path.{sym, ◌∙◌}
use Rattle.receiving.proofs.Settlement.{puts_accepted, puts_nothing}
use Rattle.receiving.proofs.windows.put_settled.Goals as goal

pub returns-then-is_accepted : goal.returns-then-is_accepted
returns-then-is_accepted c =
    puts_accepted _ _ _ _ (sym c.is_accepted.ensures ∙ c.if-is_accepted.true) c.put_line.ensures

pub returns : goal.returns
returns c = puts_nothing _ _ _ (sym c.is_accepted.ensures ∙ c.if-is_accepted.false)

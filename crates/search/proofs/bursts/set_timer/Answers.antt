-- `set_timer` meets its contract. Assumes nothing.
use mathlib.Core.Path.{sym, ◌∙◌}
use Rattle.search.specs.Search.{carried}
use Rattle.search.proofs.Compared.{match_own}
use Rattle.search.proofs.bursts.set_timer.Goals as goal

pub returns-then-is_match : goal.returns-then-is_match
unfolding carried
returns-then-is_match c =
    λ burst v e. rw (match_own burst v _ e ∙ sym c.is_match.ensures ∙ c.if-is_match.true, c.saturating_add-end.ensures)

pub returns : goal.returns
unfolding carried
returns c = λ burst v e. rw (match_own burst v _ e ∙ sym c.is_match.ensures ∙ c.if-is_match.false)

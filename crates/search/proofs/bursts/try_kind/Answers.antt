-- `try_kind` meets its contract. Assumes nothing.
use mathlib.Core.Path.{sym, ◌∙◌}
use Rattle.search.specs.Search.{tried}
use Rattle.search.proofs.Compared.{match_own}
use Rattle.search.proofs.bursts.try_kind.Goals as goal

pub returns-then-is_match : goal.returns-then-is_match
unfolding tried
returns-then-is_match c =
    λ v e. rw (match_own _ v _ e ∙ sym c.is_match.ensures ∙ c.if-is_match.true, sym e) c.age_or_take.ensures

pub returns : goal.returns
unfolding tried
returns c =
    λ v e. rw (match_own _ v _ e ∙ sym c.is_match.ensures ∙ c.if-is_match.false) c.await_frame.ensures

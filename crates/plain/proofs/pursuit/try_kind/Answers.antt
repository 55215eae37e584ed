-- `try_kind` meets its contract. Assumes nothing.
use mathlib.Core.Path.{sym, ◌∙◌}
use Rattle.search.specs.Search.{tried}
use Rattle.search.proofs.Compared.{match_own}
use Rattle.plain.proofs.pursuit.try_kind.Goals as goal

pub returns-then-m : goal.returns-then-m
unfolding tried
returns-then-m c =
    let e = c.correlate-m.ensures in
    rw (match_own _ _ _ e ∙ c.if-m.true, sym e) c.meet.ensures

pub returns : goal.returns
unfolding tried
returns c =
    let e = c.correlate-m.ensures in
    rw (match_own _ _ _ e ∙ c.if-m.false) c.miss.ensures

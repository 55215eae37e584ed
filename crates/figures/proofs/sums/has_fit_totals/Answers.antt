-- `sums::has_fit_totals` meets its contract. Assumes nothing.
use mathlib.Core.Path.{◌∙◌}
use Prim.Native.Nat.{ℕ}
use borrow.Author.Rules.{rules}
use lib.Dec.{leb}
use Rattle.std.proofs.Common.{tests}
use Rattle.std.proofs.lemmas.Iterator.{YieldsList-from_slice}
use Rattle.std.proofs.lemmas.Iterator.Search.{all_from_yields_List}
use Rattle.figures.specs.Totals.{most_total, totals_fit}
use Rattle.figures.proofs.TotalLaws.{all_small}
use Rattle.figures.proofs.sums.has_fit_totals.Goals as goal

pub returns : goal.returns
unfolding totals_fit
returns c =
    let totals = c.args.totals in
    all_from_yields_List (λ (x : ℕ). leb x most_total) c.all.new.self _ _ c.all.ensures.ran (YieldsList-from_slice totals (search rules)) (λ x b q k. search (rules, tests))
    ∙ all_small totals (search rules)

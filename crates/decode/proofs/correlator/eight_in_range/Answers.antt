-- `eight_in_range` meets its contract. Assumes nothing.
use mathlib.Core.Path.{◌∙◌}
use borrow.Author.Rules.{rules}
use borrow.Author.Tests.{tests}
use lib.Ieee.{nan}
use Rattle.std.proofs.lemmas.Iterator.{YieldsList-from_slice}
use Rattle.std.proofs.lemmas.Iterator.Search.{all_from_yields_List}
use Rattle.decode.specs.Correlator.{in_range}
use Rattle.decode.proofs.ByPlaces.{all_by_places}
use Rattle.decode.proofs.correlator.eight_in_range.Goals as goal

pub returns : goal.returns
returns c =
    let samples = c.args.samples.now in
    all_from_yields_List in_range _ _ _ c.all.ensures.ran (YieldsList-from_slice samples cc) (λ x b q k. search (rules, tests))
    ∙ all_by_places in_range samples nan
    ∙ rw c.told-samples

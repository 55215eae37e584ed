-- `any_seat` meets its contract. Assumes nothing.
use mathlib.Core.Path.{◌∙◌}
use mathlib.Core.Bool.{Bool}
use borrow.Author.Rules.{rules}
use Rattle.std.proofs.Common.{tests}
use Rattle.std.proofs.lemmas.Iterator.{YieldsList-from_slice, YieldsList-from_zip}
use Rattle.std.proofs.lemmas.Iterator.Search.{any_from_yields_List}
use Rattle.demodulator.specs.declared.SoftDemodulator.{SoftDemodulator}
use Rattle.desk.proofs.ListLaws.{any_seat}
use Rattle.desk.proofs.listing.any_seat.Goals as goal

pub returns : goal.returns
returns g c p says =
    let d = c.args.desk in
    any_from_yields_List (λ (x : Bool × SoftDemodulator). p x.0 x.1) c.any.new.self _ _ c.any.ensures.ran
    (YieldsList-from_zip (YieldsList-from_slice d.opened (search rules)) (YieldsList-from_slice d.receivers (search rules)))
    (λ x b q k. search (rules, tests, says))
    ∙ any_seat p d.opened d.receivers (search rules) (search rules)

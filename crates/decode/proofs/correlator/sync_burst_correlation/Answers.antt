-- `sync_burst_correlation` meets its contract: each refusal at its test, and past both the answer to the eight values with their zeros unsigned. Assumes nothing.
use mathlib.Core.Path.{sym, ap, ◌∙◌}
use mathlib.Core.List.{map}
use lib.ListN.{length}
use borrow.Author.Tests.{eq-eqb, ne_eqb}
use Rattle.decode.specs.Correlator.{zero_unsigned, correlated, told}
use Rattle.decode.proofs.Same.{six_alike}
use Rattle.decode.proofs.correlator.sync_burst_correlation.Goals as goal

pub returns-in_default : goal.returns-in_default
unfolding correlated
returns-in_default c = rw (ne_eqb (length c.args.samples.now) 8 c.in_default.ensures.1)

pub returns-then-not-eight_in_range : goal.returns-then-not-eight_in_range
unfolding correlated
returns-then-not-eight_in_range c =
    let whole = c.in-Ok.ensures.1 in
    let eight = eq-eqb (length c.args.samples.now) 8 whole.long in
    let outside = rw whole.same at (sym c.eight_in_range.ensures ∙ c.if-not-eight_in_range.true) in
    rw (eight, outside)

pub returns : goal.returns
unfolding correlated
returns c =
    let samples = c.args.samples.now in
    let whole = c.in-Ok.ensures.1 in
    let eight = eq-eqb (length samples) 8 whole.long in
    let inside = rw whole.same at (sym c.eight_in_range.ensures ∙ c.if-not-eight_in_range.false) in
    let values = c.unsign_zeros-values.ensures ∙ ap (map zero_unsigned) whole.same in
    let answer = six_alike c.args.burst samples c.unsign_zeros-values.result c.spread_of.result c.compare-answer.result values c.spread_of.ensures c.compare-answer.ensures in
    rw (eight, inside) (ap told answer)

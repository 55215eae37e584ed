-- `fit::unfit_for` meets its contract. Assumes nothing.
use mathlib.Core.Path.{◌≡◌, sym, ◌∙◌}
use mathlib.Core.Bool.{true, false}
use Rattle.shaping.specs.Rate.{rate_fit}
use Rattle.modulator.proofs.fit.unfit_for.Goals as goal

pub returns-then-is_rate : goal.returns-then-is_rate
returns-then-is_rate c =
    let fit : rate_fit c.args.m.rate ≡ true = sym c.is_rate.ensures ∙ c.if-is_rate.true in
    rw fit

pub returns-else-is_rate : goal.returns-else-is_rate
returns-else-is_rate c =
    let fit : rate_fit c.args.m.rate ≡ false = sym c.is_rate.ensures ∙ c.if-is_rate.false in
    rw fit

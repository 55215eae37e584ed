-- `SoftModulator::new` meets its contract. Assumes nothing.
use mathlib.Core.Path.{◌≡◌, sym, ◌∙◌}
use mathlib.Core.Bool.{true, false}
use Rattle.shaping.specs.Rate.{rate_fit}
use Rattle.modulator.specs.Calls.{made}
use Rattle.modulator.proofs.SoftModulator.new.Goals as goal

pub returns-then-not-is_rate : goal.returns-then-not-is_rate
unfolding made
returns-then-not-is_rate c =
    let none : rate_fit c.args.rate ≡ false = sym c.is_rate.ensures ∙ c.if-not-is_rate.true in
    record { answers = rw none; leaves = c.fresh-modulator.ensures }

pub returns : goal.returns
unfolding made
returns c =
    let fit : rate_fit c.args.rate ≡ true = sym c.is_rate.ensures ∙ c.if-not-is_rate.false in
    record { answers = rw fit; leaves = c.fresh-modulator.ensures }

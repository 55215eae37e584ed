-- `new` meets its contract. Assumes nothing.
use mathlib.Core.Path.{refl, sym, ◌∙◌}
use Rattle.demodulator.specs.Record.{fresh}
use Rattle.demodulator.specs.Calls.{made}
use Rattle.demodulator.proofs.SoftDemodulator.new.Goals as goal

pub returns-then-not-is_rate : goal.returns-then-not-is_rate
unfolding made fresh
returns-then-not-is_rate c = record { answers = rw (sym c.is_rate.ensures ∙ c.if-not-is_rate.true); leaves = refl }

pub returns : goal.returns
unfolding made fresh
returns c = record { answers = rw (sym c.is_rate.ensures ∙ c.if-not-is_rate.false); leaves = refl }

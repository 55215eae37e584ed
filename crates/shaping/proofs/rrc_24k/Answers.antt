-- `shaping::rrc_24k` meets its contract: the constant is every second tap of the specification's table, as both compute. Assumes nothing.
use mathlib.Core.Path.{refl}
use Rattle.numbers.specs.Firsts.{firsts}
use Rattle.shaping.specs.Taps.{taps, even_taps}
use Rattle.shaping.proofs.rrc_24k.Goals as goal

pub returns : goal.returns
unfolding even_taps taps firsts
returns c = refl

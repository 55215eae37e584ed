-- `shaping::rrc_48k` meets its contract: the constant is the specification's table, as both compute. Assumes nothing.
use mathlib.Core.Path.{refl}
use Rattle.shaping.specs.Taps.{taps}
use Rattle.shaping.proofs.rrc_48k.Goals as goal

pub returns : goal.returns
unfolding taps
returns c = refl

-- `count` meets its contract. Assumes nothing.
use mathlib.Core.Path.{ap, ◌∙◌}
use Prim.Native.Nat.{◌+◌}
use Rattle.quiet.specs.Parts.{turn_control}
use Rattle.quiet.proofs.Turns.{count_turn}
use Rattle.quiet.proofs.count.count.Goals as goal

pub returns : goal.returns
returns c =
    let a = c.args in
    c.control_of.ensures
    ∙ ap turn_control c.turn_of-turn.ensures
    ∙ count_turn (a.control.sample + a.n) a.control c.requires.0

-- `rest` meets its contract. Assumes nothing.
use mathlib.Core.Path.{◌≡◌, ap, ◌∙◌}
use Prim.Native.Nat.{ℕ, ◌+◌, ◌-◌, ◌<◌}
use native.Mathlib.Omega.{arith}
use Rattle.search.specs.declared.Control.{Control}
use Rattle.search.specs.Turn.{counted_to, waiting_on}
use Rattle.quiet.specs.Parts.{turn_control, nearer_by}
use Rattle.quiet.proofs.Turns.{rest_turn}
use Rattle.quiet.proofs.count.rest.Goals as goal

pub returns : goal.returns
returns c =
    let a = c.args in
    let counted : Control = counted_to (a.control.sample + a.n) a.control in
    let left : ℕ = a.waiting.left - (a.n - 1) in
    let fewer : left - 1 ≡ a.waiting.left - a.n = omega arith in
    let more : 1 < left = omega arith in
    c.control_of.ensures
    ∙ ap turn_control c.turn_of-turn.ensures
    ∙ rest_turn (a.control.sample + a.n) (nearer_by (a.n - 1) a.waiting) a.control more
    ∙ ap (λ (k : ℕ). waiting_on (record { left = k; age = a.waiting.age; replaced = a.waiting.replaced }) counted) fewer

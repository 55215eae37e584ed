-- `enter_symbol` meets its contract. The loop's invariant: the values so far have
-- entered, and the next is what the symbol's pulse has there. Assumes nothing.
use mathlib.Core.Path.{refl, sym, ap, ◌∙◌}
use Prim.Native.Nat.{ℕ, ◌+◌}
use native.Mathlib.Numerals.{add-one}
use native.Mathlib.Omega.{arith}
use Rattle.pulse.specs.Pulse.{Line, pushed, after, line_at}
use Rattle.pulse.proofs.Pulses.{pulse_first, gap}
use Rattle.pulse.proofs.window.Ring.enter_symbol.Invariants.{entering}
use Rattle.pulse.proofs.window.Ring.enter_symbol.Goals as goal

pub loop-init : goal.loop-init
unfolding after
loop-init c = (refl, (λ h. sym (pulse_first c.args.self.now.p (λ (_ : ℕ). c.args.symbol) (omega arith))), refl)

pub loop-preserved : goal.loop-preserved
unfolding after
loop-preserved c =
    let l = c.loop in
    let i = l.counter in
    let p = c.args.self.now.p in
    let symbol = c.args.symbol in
    let same = l.invariant.0 in
    let pushes = rw same at c.push.ensures.pushes in (
      c.push.ensures.keeps ∙ same,
      (λ h. sym (gap p (λ (_ : ℕ). symbol) (i + 1) (omega arith) h)),
      rw (add-one i) (pushes ∙ ap (pushed p (line_at l.self.values l.self.cursor)) (l.invariant.1 (omega arith)) ∙ ap (λ (k : Line). pushed p k (entering p symbol i)) l.invariant.2),
    )

-- `push_symbol` meets its contract. The loop's invariant: the values so far have been sent, and the next is what the symbol's pulse has there. Assumes nothing.
use mathlib.Core.Path.{refl, sym, ap, ◌∙◌}
use Prim.Native.Nat.{ℕ, ◌+◌}
use native.Mathlib.Numerals.{add-one}
use native.Mathlib.Omega.{arith}
use mir.Syntax.{w16}
use mir.ValLaws.{to_z-of_z}
use borrow.Author.Rules.{rules}
use lib.IntN.{pos}
use Rattle.shaping.specs.Rate.{rate_at}
use Rattle.pulse.specs.Pulse.{pushed, line_at}
use Rattle.pulse.proofs.Pulses.{pulse_first, gap}
use Rattle.pulse.proofs.Stream.{sent_none, sent_one}
use Rattle.pulse.proofs.window.Ring.push_symbol.Goals as goal

pub loop-place-init : goal.loop-place-init
loop-place-init c =
    let p = c.args.self.now.p in
    (refl, (λ h. sym (pulse_first p (λ (_ : ℕ). c.args.symbol) (omega arith))), sent_none (rate_at p) _ _ _)

pub loop-place-preserved : goal.loop-place-preserved
loop-place-preserved c =
    let l = c.loop-place in
    let i = l.place-index in
    let p = c.args.self.now.p in
    let back = to_z-of_z w16 c.sample.result (record { sfits = c.sample.type_inv }) in
    let same = l.invariant.0 in
    let keeps = c.push.ensures.keeps ∙ same in
    let pushes = rw same at c.push.ensures.pushes in
    let enters = pushes ∙ ap (pushed p (line_at l.self.values l.self.cursor)) (l.invariant.1 (search rules)) in (
      keeps,
      (λ h. sym (gap p (λ (_ : ℕ). c.args.symbol) (i + 1) (omega arith) h)),
      rw (add-one i, back) (sent_one (rate_at p) _ i _ _ _ _ _ _ (pos 0) (omega arith) l.invariant.2 enters (rw keeps at c.sample.ensures)),
    )

-- `has_pulses_only` meets its contract: after i turns the answer is that of the first i places. Assumes nothing.
use mathlib.Core.Path.{◌≡◌, refl, sym, ◌∙◌}
use Prim.Native.Nat.{◌<◌}
use native.Mathlib.Nat.{add-zero, mod-eq_of_lt}
use native.Mathlib.Numerals.{add-one}
use native.Mathlib.Omega.{arith}
use borrow.Author.Rules.{rules}
use Rattle.numbers.specs.Below.{all_below}
use Rattle.shaping.specs.Rate.{tap_count}
use Rattle.pulse.specs.Phases.{pulses_only}
use Rattle.pulse.proofs.Places.{next_inside, next_mod, next_place}
use Rattle.pulse.proofs.window.Ring.has_pulses_only.Goals as goal

pub loop-init : goal.loop-init
unfolding all_below
loop-init c =
    let ring = c.args.self.now in
    let some : 0 < ring.p = omega arith in
    (search rules, rw (add-zero ring.cursor) (sym (mod-eq_of_lt ring.inside)), search rules, sym (mod-eq_of_lt some), refl)

pub loop-preserved : goal.loop-preserved
unfolding all_below
loop-preserved c =
    let ring = c.args.self.now in
    let p = ring.p in
    let l = c.loop in
    let i = l.counter in
    let places : 0 < tap_count p = omega arith in
    let some : 0 < p = omega arith in
    let at-next = rw c.samples-step.ensures at c.place_after-at.ensures in
    let phase-next = rw c.samples-step.ensures at c.place_after-phase.ensures in (
      next_inside (tap_count p) l.at _ places at-next,
      next_place (tap_count p) l.at _ places at-next ring.cursor i l.invariant.1,
      next_inside p l.phase _ some phase-next,
      next_mod p l.phase _ some phase-next i l.invariant.3,
      rw (add-one i, l.invariant.4, l.invariant.1, l.invariant.3),
    )

pub returns : goal.returns
unfolding pulses_only
returns c =
    let l = c.loop in
    let done : l.counter ≡ tap_count c.args.self.now.p = omega arith in
    l.invariant.4 ∙ rw done

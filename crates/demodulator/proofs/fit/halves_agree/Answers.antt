-- `halves_agree` meets its contract: after i turns the pairs before i are compared. Assumes nothing.
use mathlib.Core.Path.{◌≡◌, refl, ◌∙◌}
use Prim.Native.Nat.{◌+◌}
use native.Mathlib.Numerals.{add-one}
use native.Mathlib.Omega.{arith}
use borrow.Author.Rules.{sfits_of}
use mir.Syntax.{w16}
use lib.IntN.{pos}
use lib.ListN.{get_or}
use Rattle.numbers.specs.Below.{all_below}
use Rattle.shaping.specs.Rate.{tap_count}
use Rattle.demodulator.specs.Fit.{halves_agree_lem}
use Rattle.demodulator.proofs.Halves.{same_pattern}
use Rattle.demodulator.proofs.fit.halves_agree.Goals as goal

pub loop-i-init : goal.loop-i-init
unfolding all_below
loop-i-init c = refl

pub loop-i-preserved : goal.loop-i-preserved
unfolding all_below
loop-i-preserved c =
    let l = c.loop-i in
    let a = c.args in
    let window = a.filter_win.now in
    let first = sfits_of {w = w16} {z = get_or window l.i (pos 0)} c.all-1.given in
    let second = sfits_of {w = w16} {z = get_or window (l.i + tap_count c.samples.result) (pos 0)} c.all-in-loop-i-1.given in
    rw (add-one l.i, l.invariant, same_pattern _ _ first second, c.samples.ensures)

pub returns : goal.returns
unfolding halves_agree_lem
returns c =
    let l = c.loop-i in
    let done : l.i ≡ tap_count c.args.p = omega arith in
    l.invariant ∙ rw done

-- `range_of` meets its contract: after value i, the two are the largest and the smallest of those up to i. Assumes nothing.
use mathlib.Core.Path.{◌≡◌, ◌∙◌}
use Prim.Native.Nat.{◌+◌, ◌<◌}
use native.Mathlib.Numerals.{add-one}
use native.Mathlib.Omega.{arith}
use borrow.Author.Rules.{rules}
use lib.Ieee.{nan}
use lib.ListN.{length, drop, length-take, length-drop}
use lib.Seq.{get_or-take, get_or-drop}
use Rattle.decode.specs.Correlator.{highest, lowest, zero_unsigned}
use Rattle.plain.proofs.correlator.range_of.Goals as goal

pub loop-value-init : goal.loop-value-init
unfolding highest lowest zero_unsigned
loop-value-init c = search rules

pub loop-value-preserved : goal.loop-value-preserved
unfolding highest lowest zero_unsigned
loop-value-preserved c =
    let l = c.loop-value in
    let i = l.value-index in
    let values-length : length c.args.values ≡ 8 = search rules in
    let inside : i < 7 = omega (arith, length-take 7 (drop 1 c.args.values)) in
    let here = get_or-take 7 (drop 1 c.args.values) i nan inside ∙ get_or-drop 1 c.args.values i nan in
    let next : 1 + i ≡ i + 1 = omega arith in
    (rw (add-one i) (c.max-max.ensures ∙ rw (here, next, add-one i, l.invariant.0)), rw (add-one i) (c.min-min.ensures ∙ rw (here, next, add-one i, l.invariant.1)))

pub returns : goal.returns
returns c =
    let l = c.loop-value in
    let values-length : length c.args.values ≡ 8 = search rules in
    let done : l.value-index ≡ 7 = omega (arith, length-take 7 (drop 1 c.args.values), length-drop 1 c.args.values) in
    rw (l.invariant.0, l.invariant.1, done)

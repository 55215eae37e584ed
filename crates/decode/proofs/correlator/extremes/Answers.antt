-- `extremes` meets its contract: after value i, the two are the highest and the lowest of those up to i. Assumes nothing.
use mathlib.Core.Path.{◌≡◌, ap, ◌∙◌}
use mathlib.Core.List.{List}
use Prim.Native.Nat.{ℕ, suc, ◌<◌}
use native.Mathlib.Numerals.{add-one}
use native.Mathlib.Omega.{arith}
use borrow.Author.Rules.{rules}
use lib.ListN.{length, get_or, take, drop}
use lib.Ieee.{Float, nan}
use Rattle.std.proofs.lemmas.List.{get_or-take, get_or-drop, length-take-le, length-drop}
use Rattle.decode.specs.Correlator.{highest, lowest}
use Rattle.decode.proofs.correlator.extremes.Goals as goal

module _ (vs : List Float) (e : length vs ≡ 8) where
  seven_later : length (take 7 (drop 1 vs)) ≡ 7
  seven_later = length-take-le 7 (drop 1 vs) (omega (arith, length-drop 1 vs))

  -- value i of those past the first
  later : (i : ℕ) → i < length (take 7 (drop 1 vs)) → get_or (take 7 (drop 1 vs)) i nan ≡ get_or vs (suc i) nan
  later i h = get_or-take 7 (drop 1 vs) i nan (omega (arith, seven_later)) ∙ get_or-drop 1 vs i nan ∙ ap (λ (n : ℕ). get_or vs n nan) (omega arith)

pub loop-value-init : goal.loop-value-init
unfolding highest lowest
loop-value-init c = search rules

pub loop-value-preserved : goal.loop-value-preserved
unfolding highest lowest
loop-value-preserved c =
    let l = c.loop-value in
    let e = later c.args.values.now c.told-values l.value-index c.loop-value-test.true in
    (rw (add-one l.value-index) (c.max-high.ensures ∙ rw (e, l.invariant.0)), rw (add-one l.value-index) (c.min-low.ensures ∙ rw (e, l.invariant.1)))

pub returns : goal.returns
returns c =
    let l = c.loop-value in
    let done : l.value-index ≡ 7 = omega (arith, seven_later c.args.values.now c.told-values) in
    rw (l.invariant.0, l.invariant.1, done)

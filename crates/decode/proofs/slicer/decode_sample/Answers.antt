-- `decode_sample` meets its contract: the definition's three tests are the code's. Assumes nothing.
use mathlib.Core.Path.{◌≡◌, refl}
use mathlib.Core.Bool.{true, false}
use mathlib.Core.List.{[], ◌∷◌}
use lib.Ieee.{Float, binary32, of_bits, neg, lt}
use Rattle.decode.specs.Slicer.{sliced, outer, outer_below}
use Rattle.decode.proofs.slicer.decode_sample.Goals as goal

-- the limit below is the limit above with its sign turned
turned : neg outer ≡ outer_below
unfolding neg of_bits
turned = refl

module _ (x : Float) where
  plus_three : lt outer x ≡ true → 0 ∷ 1 ∷ [] ≡ sliced x
  unfolding sliced
  plus_three a = simp a

  plus_one : lt outer x ≡ false → lt (of_bits binary32 0) x ≡ true → 0 ∷ 0 ∷ [] ≡ sliced x
  unfolding sliced
  plus_one a b = simp (a, b)

  minus_one : lt outer x ≡ false → lt (of_bits binary32 0) x ≡ false → lt (neg outer) x ≡ true → 1 ∷ 0 ∷ [] ≡ sliced x
  unfolding sliced
  minus_one a b c = simp (a, b, rw turned at c)

  minus_three : lt outer x ≡ false → lt (of_bits binary32 0) x ≡ false → lt (neg outer) x ≡ false → 1 ∷ 1 ∷ [] ≡ sliced x
  unfolding sliced
  minus_three a b c = simp (a, b, rw turned at c)

pub returns-then-sample : goal.returns-then-sample
returns-then-sample c = plus_three c.args.sample c.if-sample.true

pub returns-then-sample-2 : goal.returns-then-sample-2
returns-then-sample-2 c = plus_one c.args.sample c.if-sample.false c.if-sample-2.true

pub returns-then-sample-3 : goal.returns-then-sample-3
returns-then-sample-3 c = minus_one c.args.sample c.if-sample.false c.if-sample-2.false c.if-sample-3.true

pub returns-else-sample-3 : goal.returns-else-sample-3
returns-else-sample-3 c = minus_three c.args.sample c.if-sample.false c.if-sample-2.false c.if-sample-3.false

-- `correlate` meets its contract, whichever side of 16.0 the gain lies on. Assumes nothing.
use mathlib.Core.Path.{◌≡◌, refl, ap, ◌∙◌}
use mathlib.Core.Bool.{true, false}
use mathlib.Core.List.{List}
use Prim.Native.Nat.{ℕ}
use lib.IntN.{ℤ}
use lib.Ieee.{Float, lt}
use Rattle.protocol.specs.declared.Kind.{Kind}
use Rattle.protocol.specs.declared.SyncBurst.TheVariants.{Frame}
use Rattle.protocol.specs.Bursts.{signs_of}
use Rattle.decode.specs.Correlator.{least_gain, no_match, highest, lowest, gain_of, shift_of, diff_of, summed, distances, correlation}
use Rattle.decode.specs.Parts.{values_of}
use Rattle.plain.specs.declared.correlator.Range.{Range}
use Rattle.plain.specs.Values.{unsigned, range_of}
use Rattle.plain.proofs.correlator.correlate.Goals as goal

module _ (kind : Kind) (v : ℕ → Float) (q : Range) (e : q ≡ range_of (unsigned v)) where
  max_is : q.max ≡ highest (unsigned v) 7
  max_is = ap (λ (r : Range). r.max) e

  min_is : q.min ≡ lowest (unsigned v) 7
  min_is = ap (λ (r : Range). r.min) e

  weak : lt (gain_of q.max q.min) least_gain ≡ true
      → record { diff = no_match; gain = gain_of q.max q.min; shift = shift_of q.max q.min } ≡ correlation (Frame kind) v
  unfolding correlation diff_of
  weak below = let b : lt (gain_of (highest (unsigned v) 7) (lowest (unsigned v) 7)) least_gain ≡ true = rw (max_is, min_is) at below in rw (max_is, min_is, b) refl

  strong : (diff : Float) → lt (gain_of q.max q.min) least_gain ≡ false
      → diff ≡ summed (distances (signs_of (Frame kind)) (gain_of q.max q.min) (shift_of q.max q.min) (unsigned v))
      → record { diff = diff; gain = gain_of q.max q.min; shift = shift_of q.max q.min } ≡ correlation (Frame kind) v
  unfolding correlation diff_of
  strong diff enough sum = let b : lt (gain_of (highest (unsigned v) 7) (lowest (unsigned v) 7)) least_gain ≡ false = rw (max_is, min_is) at enough in rw (sum, max_is, min_is, b) refl

pub returns-then-gain : goal.returns-then-gain
unfolding gain_of shift_of
returns-then-gain c =
    let a = c.args in
    weak a.kind (values_of a.values) c.range_of-range.result c.range_of-range.ensures c.if-gain.true

pub returns : goal.returns
unfolding gain_of shift_of
returns c =
    let a = c.args in
    let q = c.range_of-range.result in
    strong a.kind (values_of a.values) q c.range_of-range.ensures c.diff_of-diff.result c.if-gain.false
    (c.diff_of-diff.ensures ∙ ap (λ (signs : List ℤ). summed (distances signs (gain_of q.max q.min) (shift_of q.max q.min) (unsigned (values_of a.values)))) c.target-signs.ensures)

-- `compare` meets its contract, whichever side of 16.0 the gain lies on. Assumes nothing.
use mathlib.Core.Path.{◌≡◌, ap, ◌∙◌}
use mathlib.Core.Bool.{true, false}
use mathlib.Core.List.{List}
use Prim.Native.Nat.{ℕ}
use lib.IntN.{ℤ}
use lib.Ieee.{Float, lt}
use Rattle.protocol.specs.Bursts.{signs_of}
use Rattle.decode.specs.Correlator.{least_gain, no_match, diff_of, summed, distances, compared}
use Rattle.decode.specs.Parts.{values_of}
use Rattle.decode.proofs.correlator.compare.Goals as goal

module _ (signs : List ℤ) (v : ℕ → Float) (gain shift : Float) where
  weak : lt gain least_gain ≡ true → record { diff = no_match; gain = gain; shift = shift } ≡ compared signs v gain shift
  unfolding diff_of
  weak below = rw below

  strong : (diff : Float) → lt gain least_gain ≡ false → diff ≡ summed (distances signs gain shift v) → record { diff = diff; gain = gain; shift = shift } ≡ compared signs v gain shift
  unfolding diff_of
  strong diff enough sum = rw (enough, sum)

pub returns-then-gain : goal.returns-then-gain
returns-then-gain c =
    let start = c.args in
    weak (signs_of start.burst) (values_of start.values) start.spread.gain start.spread.shift c.if-gain.true

pub returns : goal.returns
returns c =
    let start = c.args in
    let v = values_of start.values in
    let gain = start.spread.gain in
    let shift = start.spread.shift in
    let sum = c.summed-diff.ensures ∙ ap (λ (t : List ℤ). summed (distances t gain shift v)) c.target-target.ensures in
    strong (signs_of start.burst) v gain shift c.summed-diff.result c.if-gain.false sum

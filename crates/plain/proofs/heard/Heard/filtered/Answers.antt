-- `filtered` meets its contract: the sum so far is that of the products passed. Assumes nothing.
use mathlib.Core.Path.{◌≡◌, refl, ap, ◌∙◌}
use Prim.Native.Nat.{ℕ, ◌+◌, ◌-◌, ◌*◌}
use native.Mathlib.Omega.{arith}
use borrow.Author.Rules.{rules}
use lib.Ieee.{Float, binary32, of_int, of_bits}
use Rattle.shaping.proofs.Dot.{begun, step, ended}
use Rattle.demodulator_run.specs.Filter.{sample_no_lem, filtered}
use Rattle.plain.proofs.SampleLaws.{filtered_sum}
use Rattle.plain.proofs.heard.Heard.filtered.Goals as goal

pub returns-then-k-eq0 : goal.returns-then-k-eq0
unfolding filtered of_bits
returns-then-k-eq0 c = rw c.if-k-eq0.true

pub loop-tap-init : goal.loop-tap-init
loop-tap-init c = let a = c.args in begun a.self.now.table.now (λ (j : ℕ). of_int binary32 (sample_no_lem a.self.now.recording.now ((a.k + j) - 8 * a.self.now.p)))

pub loop-tap-preserved : goal.loop-tap-preserved
loop-tap-preserved c =
    let a = c.args in
    let w : ℕ → Float = λ (j : ℕ). of_int binary32 (sample_no_lem a.self.now.recording.now ((a.k + j) - 8 * a.self.now.p)) in
    let v : c.sample_no-sample.result ≡ w c.loop-tap.tap = c.sample_no-sample.ensures ∙ ap (λ (n : ℕ). of_int binary32 (sample_no_lem a.self.now.recording.now n)) (c.saturating_sub.ensures ∙ rw c.samples-back.ensures) in
    step a.self.now.table.now w _ _ _ c.loop-tap.tap refl (search rules) v c.loop-tap.invariant

pub returns : goal.returns
returns c =
    let a = c.args in
    ended a.self.now.table.now _ _ c.loop-tap.tap (omega arith) c.loop-tap.invariant
    ∙ filtered_sum a.self.now.table.now a.self.now.p a.self.now.recording.now a.k c.if-k-eq0.false

-- `last_carrier` meets its contract: none of the samples that were looked at carries. Assumes nothing.
use mathlib.Core.Path.{◌≡◌, sym, subst, ◌∙◌}
use mathlib.Core.Logic.{⊎_elim}
use mathlib.Core.Bool.{false}
use mathlib.Core.List.{List}
use Prim.Native.Nat.{ℕ, ◌+◌, ◌-◌, ◌≤◌, ◌<◌}
use native.Mathlib.Nat.{eq-or-lt_of_le}
use native.Mathlib.Omega.{arith}
use lib.Ieee.{Float}
use Rattle.look.specs.Marks.{eight_from}
use Rattle.quiet.specs.Parts.{carries}
use Rattle.quiet.proofs.Rows.{carries_eight, uncarried}
use Rattle.quiet.proofs.lanes.last_carrier.Goals as goal
use Rattle.quiet.proofs.lanes.last_carrier.Goals.{else-marks-k-ne0-via-then-marks-k-ne0+else-is_carrier, else-marks-k-ne0-via-else-marks-k-ne0}

-- one more that does not carry
one_more : (p : ℕ) (row : List Float) (at n k : ℕ) → 0 < k → carries (eight_from p row (at + (k - 1))) ≡ false
    → ((i : ℕ) → k ≤ i → i < n → carries (eight_from p row (at + i)) ≡ false)
    → (i : ℕ) → k - 1 ≤ i → i < n → carries (eight_from p row (at + i)) ≡ false
one_more p row at n k some here rest i h l =
    ⊎_elim
    (λ (e : k - 1 ≡ i). subst (λ (j : ℕ). carries (eight_from p row (at + j)) ≡ false) e here)
    (λ (m : k - 1 < i). rest i (omega arith) l)
    (eq-or-lt_of_le {n = k - 1} {m = i} h)

last_of : (k : ℕ) → k - 1 + 1 - 1 ≡ k - 1
last_of k = omega arith

pub returns-then-is_carrier : goal.returns-then-is_carrier
returns-then-is_carrier c =
    let a = c.args in
    let k = c.loop-k.k in
    let here = sym (carries_eight (eight_from a.p a.row.now (a.at + (k - 1))) _ c.eight.ensures _ c.is_carrier.ensures) ∙ c.if-is_carrier.true in
    record { most = omega arith; last = λ h. rw (last_of k) here; after = λ i h l. c.loop-k.invariant i (omega arith) l }

pub loop-k-preserved : goal.loop-k-preserved
loop-k-preserved c =
    let a = c.args in
    let k = c.loop-k.k in
    let here : carries (eight_from a.p a.row.now (a.at + (k - 1))) ≡ false = elim c.else-marks-k-ne0.branch [ else-marks-k-ne0-via-then-marks-k-ne0+else-is_carrier w ↦ sym (carries_eight (eight_from a.p a.row.now (a.at + (k - 1))) _ w.eight.ensures _ w.is_carrier.ensures) ∙ w.if-is_carrier.false | else-marks-k-ne0-via-else-marks-k-ne0 w ↦ uncarried (eight_from a.p a.row.now (a.at + (k - 1))) (c.requires.3.none (k - 1) (omega arith) w.if-marks-k-ne0.false) ] in
    one_more a.p a.row.now a.at a.n k (omega arith) here c.loop-k.invariant

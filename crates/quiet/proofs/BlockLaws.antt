-- A block of samples by the laws of quiet steps: only counted, or with a timer that the last carrier sets. Assumes nothing.
use Rattle.std.specs.Prelude.{None}
use mathlib.Core.Path.{◌≡◌, refl, sym, ap, subst, ◌∙◌}
use mathlib.Core.Bool.{false}
use mathlib.Core.List.{List}
use Prim.Native.Nat.{ℕ, zero, suc, ◌+◌, ◌-◌, ◌^◌, ◌≤◌, ◌<◌}
use native.Mathlib.Nat.{le_refl}
use native.Mathlib.Omega.{arith}
use lib.Ieee.{Float}
use Rattle.search.specs.declared.Control.{Control}
use Rattle.search.specs.Search.{searched}
use Rattle.search.specs.Turn.{counted_to}
use Rattle.search.specs.Fit.{held}
use Rattle.search.proofs.Silent.{Unmatched}
use Rattle.look.specs.Marks.{eight_from}
use Rattle.quiet.specs.Parts.{Leads, Calm, Block, Blocks, LastCarrier}
use Rattle.quiet.proofs.Leading.{leads_on}
use Rattle.quiet.proofs.GoesOn.{Goes, goes, goes_timed}
use Rattle.quiet.proofs.QuietSteps.{quiet_counted}
use Rattle.quiet.proofs.LastTimer.{timed_to, Set, set_shape, last_timer}
use Rattle.quiet.proofs.Rows.{unmatched_all}

module _ (p : ℕ) (row : List Float) (at n : ℕ) (c : Control) (block : Block p row at n c) where
  abbrev v : ℕ → ℕ → Float
  v = eight_from p row

  g : Goes p c
  g = goes p c block.goes

  -- ---- all are only counted
  pub counted_block : held c.candidate ≡ false → ((i : ℕ) → i < n → Unmatched (eight_from p row (at + i))) → (r : Control)
      → r ≡ counted_to (c.sample + n) c → Blocks p row at n c n r
  counted_block nothing none r e = record {
    some = block.some;
    most = le_refl n;
    leads = rw e (quiet_counted p v c g block.free at nothing n block.some block.count none);
  }

  -- ---- the last that carries sets the timer
  module _ (calm : Calm p row at n c) (j : ℕ) (last : LastCarrier p row at n j) where
    pub no_carrier : j ≡ 0 → (r : Control) → r ≡ counted_to (c.sample + n) c → Blocks p row at n c n r
    no_carrier z r e =
        counted_block calm.nothing
        (λ i h. unmatched_all (eight_from p row (at + i)) (last.after i (omega arith) h) (calm.no_frame i h)) r e

    module _ (some : (j ≡ 0) → ⊥) (set : Control) (is : set ≡ searched p (eight_from p row (at + (j - 1))) (counted_to (c.sample + j) c)) where
      pred : suc (j - 1) ≡ j
      pred = positive j some
        where
          positive : (k : ℕ) → ((k ≡ 0) → ⊥) → suc (k - 1) ≡ k
          positive zero f = absurd (f refl)
          positive (suc k) f = omega arith

      few : suc (j - 1) ≤ n
      few = omega (arith, pred, last.most)

      leads_set : Leads p v at j c set
      leads_set =
          rw is
          (subst (λ (k : ℕ). Leads p v at k c (searched p (v (at + (j - 1))) (counted_to (c.sample + k) c))) pred
          (last_timer p c calm.nothing v g block.free at (j - 1) (omega (arith, few, block.count)) (λ i h. calm.no_frame i (omega (arith, few)))
          (last.last (omega (arith, pred)))))

      shape : Set p c calm.nothing v g block.free at (j - 1)
      shape = set_shape p c calm.nothing v g block.free at (j - 1) (omega (arith, few, block.count)) (calm.no_frame (j - 1) (omega (arith, few)))

      abbrev timed : Control
      timed = timed_to (c.sample + suc (j - 1)) shape.timer c

      same : set ≡ timed
      same = is ∙ ap (λ (m : ℕ). searched p (v (at + (j - 1))) (counted_to (c.sample + m) c)) (sym pred) ∙ shape.is

      -- what is left can be counted after it
      pub carrier_ready : (set.wait ≡ None) × (set.sample + (n - j) ≤ 2 ^ 63)
      carrier_ready = rw same (block.free, omega (arith, pred, last.most, block.count))

      pub carrier_last : n - j ≡ 0 → Blocks p row at n c n set
      carrier_last none =
          let all : j ≡ n = omega (arith, last.most) in
          record { some = block.some; most = le_refl n; leads = subst (λ (k : ℕ). Leads p v at k c set) all leads_set }

      pub carrier_then : ((n - j ≡ 0) → ⊥) → (r : Control) → r ≡ counted_to (set.sample + (n - j)) set → Blocks p row at n c n r
      carrier_then more r e =
          let d : Control = timed in
          let rest : 1 ≤ n - j = above (n - j) more in
          let all : j + (n - j) ≡ n = omega (arith, last.most) in
          let goes-d = goes_timed p (c.sample + suc (j - 1)) shape.timer c g (omega arith) (omega (arith, pred, rest, block.count)) shape.fit in
          let ends : r ≡ counted_to (d.sample + (n - j)) d = e ∙ ap (λ (x : Control). counted_to (x.sample + (n - j)) x) same in
          let after = quiet_counted p v d goes-d block.free (at + j) calm.nothing (n - j) rest (omega (arith, pred, block.count)) (λ i h. later i h) in
          record {
            some = block.some;
            most = le_refl n;
            leads =
                rw ends
                (subst (λ (m : ℕ). Leads p v at m c (counted_to (d.sample + (n - j)) d)) all
                (leads_on p v at j (n - j) c d _ (subst (Leads p v at j c) same leads_set) after));
          }
        where
          above : (k : ℕ) → ((k ≡ 0) → ⊥) → 1 ≤ k
          above zero f = absurd (f refl)
          above (suc k) f = omega arith

          later : (i : ℕ) → i < n - j → Unmatched (eight_from p row (at + j + i))
          later i h =
              let there : at + (j + i) ≡ at + j + i = omega arith in
              subst (λ (k : ℕ). Unmatched (eight_from p row k)) there
              (unmatched_all (eight_from p row (at + (j + i))) (last.after (j + i) (omega arith) (omega arith)) (calm.no_frame (j + i) (omega arith)))

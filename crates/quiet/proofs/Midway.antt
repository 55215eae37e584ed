-- A block's marked samples searched one after the other, and those between only counted. Assumes nothing.
use Rattle.std.specs.Prelude.{Option, Some, None}
use Rattle.search.specs.declared.Waiting.{Waiting}
use mathlib.Core.Path.{◌≡◌, refl, sym, ap, subst, ◌∙◌}
use mathlib.Core.Logic.{inl, inr}
use mathlib.Core.Bool.{Bool, true, false, true≢false}
use mathlib.Core.List.{List}
use Prim.Native.Nat.{ℕ, zero, suc, ◌+◌, ◌-◌, ◌≤◌, ◌<◌}
use native.Mathlib.Nat.{le_refl, lt_irrefl, eq-or-lt_of_le}
use native.Mathlib.Omega.{arith}
use lib.Ieee.{Float}
use Rattle.search.specs.declared.Control.{Control}
use Rattle.search.specs.Search.{searched}
use Rattle.search.specs.Turn.{counted_to}
use Rattle.search.specs.Fit.{held}
use Rattle.search.proofs.AgeInPass.{searched_sample}
use Rattle.search.proofs.Silent.{Unmatched}
use Rattle.look.specs.Marks.{eight_from}
use Rattle.quiet.specs.Walk.{goes_on_lem}
use Rattle.quiet.specs.Parts.{free_with, is_free_lem, Leads, Marked, Block, Blocks, NextMark}
use Rattle.quiet.proofs.Leading.{leads_none, leads_on}
use Rattle.quiet.proofs.GoesOn.{goes}
use Rattle.quiet.proofs.QuietSteps.{quiet_counted, search_some}

-- ---- a free control
pub free_parts : (w : Option Waiting) (b : Bool) → free_with w b ≡ true → (w ≡ None) × (b ≡ true)
free_parts None b e = (refl, e)
free_parts (Some w) b e = absurd (true≢false (sym e))

pub free_goes : (w : Option Waiting) (b : Bool) → w ≡ None → b ≡ free_with w b
free_goes w b e = rw e

free_whole : (w : Option Waiting) (b : Bool) → w ≡ None → b ≡ true → free_with w b ≡ true
free_whole w b e h = rw (e, h)

-- ---- the marked ones one after the other: `fed` samples of the n are in the control
pub record Midway (p : ℕ) (row : List Float) (at n : ℕ) (c : Control) (fed : ℕ) (now : Control) : Type 0 where
  pub most : fed ≤ n
  pub number : now.sample ≡ c.sample + fed
  pub first : fed ≡ 0 → now ≡ c
  pub leads : Leads p (eight_from p row) at fed c now

pub midway_start : (p : ℕ) (row : List Float) (at n : ℕ) (c : Control) → Midway p row at n c 0 c
midway_start p row at n c = record { most = omega arith; number = omega arith; first = λ e. refl; leads = leads_none p (eight_from p row) at c }

module _ (p : ℕ) (row : List Float) (at n : ℕ) (c : Control) (block : Block p row at n c) where
  abbrev v : ℕ → ℕ → Float
  v = eight_from p row

  module _ (fed : ℕ) (now : Control) (m : Midway p row at n c fed now) where
    -- left because the control does not go on: one sample at least went in, since the first was free
    pub midway_stops : is_free_lem p now ≡ false → Blocks p row at n c fed now
    midway_stops e = record { some = went fed refl; most = m.most; leads = m.leads }
      where
        went : (k : ℕ) → fed ≡ k → 1 ≤ k
        went zero z =
            let here : is_free_lem p now ≡ true = ap (is_free_lem p) (m.first z) ∙ free_whole c.wait (goes_on_lem p c) block.free block.goes in
            absurd (true≢false (sym here ∙ e))
        went (suc k) z = omega arith

    -- left at the end
    pub midway_ends : n ≤ fed → Blocks p row at n c fed now
    midway_ends l = record { some = omega (arith, block.some); most = m.most; leads = m.leads }

    module _ (free : is_free_lem p now ≡ true) (marks : List ℕ) (marked : Marked p row at n marks) (b : Bool) (holding : b ≡ held now.candidate) (next : ℕ)
        (found : NextMark marks fed n b next) where
      parts : (now.wait ≡ None) × (goes_on_lem p now ≡ true)
      parts = free_parts now.wait (goes_on_lem p now) free

      between : b ≡ false → (i : ℕ) → i < next - fed → Unmatched (eight_from p row (at + fed + i))
      between e i h =
          let there : at + (fed + i) ≡ at + fed + i = omega arith in
          let inside : fed + i < n = omega (arith, found.most) in
          subst (λ (k : ℕ). Unmatched (eight_from p row k)) there
          (marked.none (fed + i) inside (found.between e (fed + i) (omega arith) (omega arith)))

      -- none is left to be searched
      pub midway_counts : fed < n → next ≡ n → (r : Control) → r ≡ counted_to (now.sample + (n - fed)) now → Blocks p row at n c n r
      midway_counts l e r is =
          let silent = not_held b refl in
          let some : 1 ≤ n - fed = omega arith in
          let all : fed + (n - fed) ≡ n = omega arith in
          let after =
          quiet_counted p v now (goes p now parts.1) parts.0 (at + fed) (sym holding ∙ silent) (n - fed) some (omega (arith, m.number, block.count))
          (λ i h. between silent i (omega (arith, e)))
          in
          record {
            some = block.some;
            most = le_refl n;
            leads =
                rw is
                (subst (λ (k : ℕ). Leads p v at k c (counted_to (now.sample + (n - fed)) now)) all (leads_on p v at fed (n - fed) c now _ m.leads after));
          }
        where
          not_held : (a : Bool) → b ≡ a → b ≡ false
          not_held true z = absurd (lt_irrefl fed (rw (sym e ∙ found.at_once z) at l))
          not_held false z = z

      -- the next is searched
      pub midway_searches : ((next ≡ n) → ⊥) → (r : Control)
          → r ≡ searched p (eight_from p row (at + next)) (counted_to (now.sample + (next - fed + 1)) now) → Midway p row at n c (next + 1) r
      midway_searches other r is =
          let far : next < n = below found.most in
          let here : at + fed + (next - fed) ≡ at + next = omega (arith, found.least) in
          let more : suc (next - fed) ≡ next - fed + 1 = omega arith in
          let all : fed + suc (next - fed) ≡ next + 1 = omega (arith, found.least) in
          let last : Control = searched p (v (at + next)) (counted_to (now.sample + (next - fed + 1)) now) in
          let after : Leads p v (at + fed) (suc (next - fed)) now last =
          subst (λ (k : ℕ). Leads p v (at + fed) (suc (next - fed)) now (searched p (v k) (counted_to (now.sample + (next - fed + 1)) now))) here
          (subst (λ (k : ℕ). Leads p v (at + fed) (suc (next - fed)) now (searched p (v (at + fed + (next - fed))) (counted_to (now.sample + k) now))) more
          (search_some p v now (goes p now parts.1) parts.0 (at + fed) (next - fed) (omega (arith, m.number, block.count, far, found.least)) b (sym holding)
          (λ e. at_first e) between))
          in
          let numbered : r.sample ≡ c.sample + (next + 1) =
          ap (λ (x : Control). x.sample) is
          ∙ searched_sample p (v (at + next)) (counted_to (now.sample + (next - fed + 1)) now)
          ∙ omega (arith, m.number, found.least)
          in
          record {
            most = omega (arith, far);
            number = numbered;
            first = λ e. absurd (omega arith);
            leads = rw is (subst (λ (k : ℕ). Leads p v at k c last) all (leads_on p v at fed (suc (next - fed)) c now last m.leads after));
          }
        where
          below : next ≤ n → next < n
          below l = elim (eq-or-lt_of_le l) [ inl e ↦ absurd (other e) | inr k ↦ k ]

          at_first : b ≡ true → next - fed ≡ 0
          at_first e = let same = found.at_once e in omega (arith, same)

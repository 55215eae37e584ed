-- A row from its first sample to its last. Assumes nothing.
use mathlib.Core.Path.{◌≡◌, refl, ap, ◌∙◌}
use mathlib.Core.Bool.{true, false}
use mathlib.Core.List.{List}
use Prim.Native.Nat.{ℕ, zero, suc, ◌+◌, ◌-◌, ◌*◌, ◌≤◌, ◌<◌}
use native.Mathlib.Omega.{arith}
use borrow.Author.Tests.{le-leb, lt-leb}
use lib.ListN.{length, take}
use lib.Ieee.{Float}
use Rattle.search.specs.declared.Control.{Control}
use Rattle.look.specs.Rows.{row_in_range}
use Rattle.look.specs.Marks.{eight_from}
use Rattle.quiet.specs.Walk.{goes_on_lem, walked_to, walked_from, walked}
use Rattle.quiet.specs.Parts.{Leads, InRange}

module _ (p : ℕ) (row : List Float) (count : ℕ) (c : Control) where
  pub row_many : 10 < p → walked p row count c ≡ walked_to 0 c
  unfolding walked
  row_many h = rw (lt-leb p 10 h)

  pub row_short : p ≤ 10 → length row < count + (7 * p + 48) → walked p row count c ≡ walked_to 0 c
  unfolding walked
  row_short h l = rw (le-leb p 10 h, lt-leb (count + (7 * p + 48)) (length row) l)

  module _ (rate : p ≤ 10) (long : count + (7 * p + 48) ≤ length row) where
    pub row_out : row_in_range (take (count + 7 * p) row) ≡ false → walked p row count c ≡ walked_to 0 c
    unfolding walked
    row_out e = rw (le-leb p 10 rate, le-leb (count + (7 * p + 48)) (length row) long, e)

    pub row_ready : row_in_range (take (count + 7 * p) row) ≡ true → walked p row count c ≡ walked_from p (eight_from p row) 0 (count - 0) c
    unfolding walked
    row_ready e =
        let all : count ≡ count - 0 = omega arith in
        rw (le-leb p 10 rate, le-leb (count + (7 * p + 48)) (length row) long, e) (ap (λ (n : ℕ). walked_from p (eight_from p row) 0 n c) all)

-- where the control does not go on, or no sample is left
pub walk_stops : (p : ℕ) (v : ℕ → ℕ → Float) (i n : ℕ) (c : Control) → goes_on_lem p c ≡ false → walked_from p v i n c ≡ walked_to i c
unfolding walked_from
walk_stops p v i zero c e = refl
walk_stops p v i (suc n) c e = rw e

pub walk_ends : (p : ℕ) (v : ℕ → ℕ → Float) (i n : ℕ) (c : Control) → n ≡ 0 → walked_from p v i n c ≡ walked_to i c
unfolding walked_from
walk_ends p v i zero c e = refl
walk_ends p v i (suc n) c e = absurd (omega arith)

-- some samples more
pub walk_on : (p : ℕ) (v : ℕ → ℕ → Float) (count fed more : ℕ) (c d : Control) → more ≤ count - fed → Leads p v fed more c d
    → walked_from p v fed (count - fed) c ≡ walked_from p v (fed + more) (count - (fed + more)) d
walk_on p v count fed more c d l leads =
    let all : count - fed ≡ more + (count - (fed + more)) = omega arith in
    ap (λ (n : ℕ). walked_from p v fed n c) all ∙ leads (count - (fed + more))

-- fewer samples of those that are in range
pub fewer_in_range : (p : ℕ) (row : List Float) (at n left : ℕ) → n ≤ left → InRange p row at left → InRange p row at n
fewer_in_range p row at n left l values = record { rate = values.rate; long = values.long; range = λ i h. values.range i (omega arith) }

-- A row of zeros has no sum but 0.0, by any finite table: a product with a zero is one, and the running sum, which is never -0.0, stays as
-- it is. Assumes nothing.
use mathlib.Core.Path.{◌≡◌, ap, ◌∙◌}
use mathlib.Core.Bool.{true}
use mathlib.Core.List.{List}
use Prim.Native.Nat.{ℕ, ◌+◌, ◌≤◌, ◌<◌}
use native.Mathlib.Omega.{arith}
use lib.Dec.{T}
use lib.ListN.{length, get_or}
use lib.Ieee.{Float, nan, binary32, of_bits, mul}
use Rattle.numbers.specs.Sum.{nought, sum_to}
use Rattle.numbers.specs.Zero.{is_zero}
use Rattle.numbers.proofs.Tests.{holds}
use Rattle.numbers.proofs.Below.{all_below_lem}
use Rattle.numbers.proofs.Unique.{equal_zero}
use Rattle.numbers.proofs.Zeros.{products_skip}
use Rattle.shaping.specs.Sum.{dot}
use Rattle.shaping.specs.Reach.{Finite}
use Rattle.bulk.specs.Sums.{sum_from, is_still_lem}

pub still_dot : (table : List Float) → Finite table → (w : ℕ → Float) → ((i : ℕ) → i < length table → T (is_zero (w i))) → dot table w ≡ nought
unfolding dot sum_to
still_dot table fine w still =
    let none : length table ≡ 0 + length table = omega arith in
    ap (λ (n : ℕ). sum_to binary32 (λ (i : ℕ). mul binary32 (get_or table i nought) (w i)) n) none
    ∙ products_skip binary32 (λ (i : ℕ). get_or table i nought) w 0 (length table) (λ i l. fine (0 + i) (omega arith))
    (λ i l. still (0 + i) (omega arith))

still_at : (row : List Float) → is_still_lem row ≡ true → (i : ℕ) → i < length row → T (is_zero (get_or row i nan))
unfolding is_still_lem of_bits
still_at row e i l = equal_zero (get_or row i nan) (all_below_lem (length row) _ (holds e) i l)

-- each window that ends in the row
pub still_sum : (table row : List Float) → Finite table → is_still_lem row ≡ true → (k : ℕ) → k + length table ≤ length row
    → sum_from table row k ≡ of_bits binary32 0
unfolding of_bits
still_sum table row fine e k l = still_dot table fine _ (λ i m. still_at row e (k + i) (omega arith))

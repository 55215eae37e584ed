-- Every filtered value of samples of 16 bits is within the correlator's range. Over p and every table whose tap sum stays within it. Assumes nothing.
use mathlib.Core.List.{List, [], ◌∷◌, ◌++◌}
use Prim.Native.Nat.{ℕ, zero, suc, ◌+◌, ◌-◌, ◌*◌, ◌≤◌, ◌<◌, zero-le}
use lib.Dec.{T}
use lib.IntN.{ℤ, pos, nat_abs}
use lib.ListN.{length, get_or}
use lib.Ieee.{Float, binary32, of_bits, of_int, lt, le}
use Rattle.numbers.specs.Within.{Within}
use Rattle.numbers.specs.Sum.{nought}
use Rattle.shaping.specs.Sum.{dot}
use Rattle.decode.specs.Correlator.{in_range}
use Rattle.decode.proofs.RangeFacts.{within_range}
use Rattle.demodulator_run.specs.Filter.{sample_no_lem, filtered}

-- ---- samples of 16 bits
unfoldable pub Small : List ℤ → Type 0
Small [] = Unit {0}
Small (x ∷ xs) = (nat_abs x ≤ 32768) × Small xs

pub small_none : Small []
unfolding Small
small_none = tt

pub small_more : (xs : List ℤ) (x : ℤ) → Small xs → nat_abs x ≤ 32768 → Small (xs ++ (x ∷ []))
unfolding Small
small_more [] x s h = (h, tt)
small_more (y ∷ xs) x s h = (s.0, small_more xs x s.1 h)

small_at : (xs : List ℤ) → Small xs → (k : ℕ) → nat_abs (get_or xs k (pos 0)) ≤ 32768
unfolding Small
small_at [] s k = zero-le
small_at (x ∷ xs) s zero = s.0
small_at (x ∷ xs) s (suc k) = small_at xs s.1 k

small_no : (xs : List ℤ) → Small xs → (k : ℕ) → nat_abs (sample_no_lem xs k) ≤ 32768
unfolding sample_no_lem
small_no xs s zero = zero-le
small_no xs s (suc k) = small_at xs s k

-- ---- what they are filtered to
-- the tap sum of samples of 16 bits lies within ±1,000,000
abbrev pub Bounded : List Float → Type 0
Bounded table = (x : ℕ → ℤ) → ((i : ℕ) → i < length table → nat_abs (x i) ≤ 32768) → Within (dot table (λ (i : ℕ). of_int binary32 (x i))) 1000000

nought_range : T (in_range nought)
unfolding in_range le lt of_bits
nought_range = tt

pub in_range_lem : (table : List Float) (p : ℕ) → Bounded table → (xs : List ℤ) → Small xs → (k : ℕ) → T (in_range (filtered table p xs k))
unfolding filtered
in_range_lem table p bound xs s zero = nought_range
in_range_lem table p bound xs s (suc k) = within_range _ (bound (λ (i : ℕ). sample_no_lem xs ((suc k + i) - 8 * p)) (λ i l. small_no xs s ((suc k + i) - 8 * p)))

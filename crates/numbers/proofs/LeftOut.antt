-- A sum from 0.0 without the terms that are zeros, of either sign, is the same bit for bit: the terms at the places
-- g 0, g 1, .. are enough where all between are zeros. A finite value times a zero is one. Assumes nothing.
use mathlib.Core.Path.{◌≡◌, ap, ◌∙◌}
use mathlib.Core.Bool.{true, cond}
use Prim.Native.Nat.{ℕ, zero, suc, ◌+◌, ◌-◌, ◌*◌, ◌%◌, ◌≤◌, ◌<◌}
use native.Mathlib.Nat.{div-add-mod, mod-eq_of_lt}
use native.Mathlib.Omega.{arith}
use borrow.Author.Tests.{ne_eqb}
use lib.Dec.{T, eqb, lit≤, lit<}
use lib.Ieee.{Float, Format, binary32, add, mul, fits}
use lib.Ieee.Fits.{mul-fits}
use lib.Ieee.Scale.{finite}
use Rattle.numbers.specs.Sum.{sum_to}
use Rattle.numbers.specs.Zero.{zero_of, is_zero}
use Rattle.numbers.proofs.Unique.{one_and_half}
use Rattle.numbers.proofs.Zeros.{mul_zero, sum_skips}

module _ (f : Format) (g : ℕ → ℕ) (rises : (q : ℕ) → g q < g (suc q)) (n : ℕ) where
  -- of n terms
  module _ (t : ℕ → Float) (fit : (i : ℕ) → i < n → T (fits f (t i)))
      (before : (i : ℕ) → i < g 0 → T (is_zero (t i)))
      (between : (q i : ℕ) → g q < i → i < g (suc q) → i < n → T (is_zero (t i)))
    where
      kept : ℕ → Float
      kept q = t (g q)

      past : (q m : ℕ) → g q < m → m ≤ g (suc q) → m ≤ n → sum_to f t m ≡ sum_to f t (suc (g q))
      past q m h k l =
          let rest : ℕ = m - suc (g q) in
          let whole : m ≡ suc (g q) + rest = omega arith in
          ap (sum_to f t) whole ∙ sum_skips f t (suc (g q)) rest (λ i u. fit i (omega arith)) λ i u. between q (suc (g q) + i) (omega arith) (omega arith) (omega arith)

      up_to : (q : ℕ) → g q ≤ n → sum_to f t (g q) ≡ sum_to f kept q
      unfolding sum_to kept
      up_to zero l =
          let none : g 0 ≡ 0 + g 0 = omega arith in
          ap (sum_to f t) none ∙ sum_skips f t 0 (g 0) (λ i u. fit i (omega arith)) λ i u. before (0 + i) (omega arith)
      up_to (suc q) l =
          let up = rises q in
          past q (g (suc q)) up (omega arith) l ∙ ap (λ (s : Float). add f s (t (g q))) (up_to q (omega arith))

      pub leaves_out : (q : ℕ) → g q < n → n ≤ g (suc q) → sum_to f t n ≡ sum_to f (λ (k : ℕ). t (g k)) (suc q)
      unfolding sum_to kept
      leaves_out q h k = past q n h k (omega arith) ∙ ap (λ (s : Float). add f s (t (g q))) (up_to q (omega arith))

  from_first : (q : ℕ) → g 0 ≤ g q
  from_first zero = omega arith
  from_first (suc q) = omega (arith, from_first q, rises q)

  -- of n products
  module _ (a b : ℕ → Float) (fine : (i : ℕ) → i < n → T (finite (a i)))
      (before : (i : ℕ) → i < g 0 → T (is_zero (b i)))
      (between : (q i : ℕ) → g q < i → i < g (suc q) → i < n → T (is_zero (b i)))
    where
      pub products_leave_out : (q : ℕ) → g q < n → n ≤ g (suc q)
          → sum_to f (λ (i : ℕ). mul f (a i) (b i)) n ≡ sum_to f (λ (k : ℕ). mul f (a (g k)) (b (g k))) (suc q)
      products_leave_out q h k =
          leaves_out (λ (i : ℕ). mul f (a i) (b i)) (λ i u. mul-fits f (a i) (b i))
          (λ i u. mul_zero f (a i) (b i) (fine i (omega (arith, from_first q))) (before i u))
          (λ p i u v w. mul_zero f (a i) (b i) (fine i w) (between p i u v w)) q h k

-- ---- an instance: five products with -0.0, but for the third, whose sum is the third alone
module _ (x : Float) where
  factor : ℕ → Float
  factor i = cond (eqb (i % 3) 2) x (zero_of true)

  third : (q i : ℕ) → 3 * q + 2 < i → i < 3 * suc q + 2 → T (is_zero (factor i))
  unfolding factor is_zero
  third q i l r = rw (ne_eqb (i % 3) 2 λ e. omega (arith, div-add-mod i 3, e)) tt

  third_alone : sum_to binary32 (λ (i : ℕ). mul binary32 one_and_half (factor i)) 5 ≡ sum_to binary32 (λ (q : ℕ). mul binary32 one_and_half (factor (3 * q + 2))) 1
  third_alone = products_leave_out binary32 (λ (q : ℕ). 3 * q + 2) (λ q. omega arith) 5 (λ _. one_and_half) factor (λ i u. tt) (λ i u. first i u) (λ q i u v w. third q i u v) 0 (lit< tt) (lit≤ tt)
    where
      first : (i : ℕ) → i < 2 → T (is_zero (factor i))
      first i u = unfold factor is_zero in rw (mod-eq_of_lt {n = i} {m = 3} (omega arith), ne_eqb i 2 λ e. omega arith) tt

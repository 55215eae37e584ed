-- The decimal digits of a number: how many there are, and what each division by ten leaves. Assumes nothing.
use mathlib.Core.Path.{◌≡◌, refl, ap}
use mathlib.Core.Bool.{Bool, true, false, cond}
use mathlib.Core.Logic.{◌⊎◌, inl, inr, ⊎_elim}
use Prim.Native.Nat.{ℕ, zero, suc, ◌/◌, ◌^◌, ◌≤◌, ◌<◌}
use native.Mathlib.Nat.{pow-succ', pow-le-pow_right, lt_of_not-le}
use native.Mathlib.Omega.{arith}
use borrow.Author.Tests.{lt-ltb, le-ltb, ltb-true, ltb-false}
use lib.Dec.{ltb, lit<}
use Rattle.house.specs.BadLine.{tens_in, tens}

-- ---- the turns are enough
enough : (turns more n : ℕ) → n ≤ turns → n ≤ more → tens_in turns n ≡ tens_in more n
unfolding tens_in
enough zero zero n h k = refl
enough zero (suc more) n h k = rw (lt-ltb n 10 (omega arith))
enough (suc turns) zero n h k = rw (lt-ltb n 10 (omega arith))
enough (suc turns) (suc more) n h k = by_test (ltb n 10) refl (enough turns more (n / 10))
  where
    by_test : (t : Bool) → ltb n 10 ≡ t → (n / 10 ≤ turns → n / 10 ≤ more → tens_in turns (n / 10) ≡ tens_in more (n / 10)) →
        cond t 0 (suc (tens_in turns (n / 10))) ≡ cond t 0 (suc (tens_in more (n / 10)))
    by_test true e next = refl
    by_test false e next = ap suc (next (omega (arith, ltb-false n 10 e)) (omega (arith, ltb-false n 10 e)))

pub tens_small : (n : ℕ) → n < 10 → tens n ≡ 0
unfolding tens_in
tens_small zero l = refl
tens_small (suc n) l = rw (lt-ltb (suc n) 10 l)

pub tens_step : (n : ℕ) → 10 ≤ n → tens n ≡ suc (tens (n / 10))
unfolding tens_in
tens_step zero l = absurd (omega arith)
tens_step (suc n) l = rw (le-ltb (suc n) 10 l) (ap suc (enough n (suc n / 10) (suc n / 10) (omega arith) (omega arith)))

-- ---- the highest power of ten in a number
below_ten : (n : ℕ) → (n < 10) ⊎ (10 ≤ n)
below_ten n = by_test (ltb n 10) refl
  where
    by_test : (t : Bool) → ltb n 10 ≡ t → (n < 10) ⊎ (10 ≤ n)
    by_test true e = inl (ltb-true n 10 e)
    by_test false e = inr (ltb-false n 10 e)

pub tens_reached : (n : ℕ) → 1 ≤ n → 10 ^ tens n ≤ n
tens_reached n = within n n (omega arith)
  where
    within : (turns n : ℕ) → n ≤ turns → 1 ≤ n → 10 ^ tens n ≤ n
    within zero n h l = absurd (omega arith)
    within (suc turns) n h l =
        ⊎_elim
        (λ (small : n < 10). rw (tens_small n small) l)
        (λ (large : 10 ≤ n). rw (tens_step n large, pow-succ' 10 (tens (n / 10))) (omega (arith, within turns (n / 10) (omega arith) (omega arith))))
        (below_ten n)

pub tens_above : (n : ℕ) → n < 10 ^ suc (tens n)
tens_above n = within n n (omega arith)
  where
    within : (turns n : ℕ) → n ≤ turns → n < 10 ^ suc (tens n)
    within zero n h = rw (tens_small n (omega arith)) (omega arith)
    within (suc turns) n h =
        ⊎_elim
        (λ (small : n < 10). rw (tens_small n small) small)
        (λ (large : 10 ≤ n). rw (tens_step n large, pow-succ' 10 (suc (tens (n / 10)))) (omega (arith, within turns (n / 10) (omega arith))))
        (below_ten n)

-- twenty digits at most in sixty-four bits
pub tens_below : (n : ℕ) → n < 2 ^ 64 → tens n < 20
tens_below zero l = rw (tens_small zero (lit< tt)) (lit< tt)
tens_below (suc n) l = lt_of_not-le λ many. omega (arith, pow-le-pow_right {n = 10} (lit< tt) many, tens_reached (suc n) (omega arith))

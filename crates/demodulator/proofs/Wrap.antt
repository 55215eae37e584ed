-- A place at most one turn past a ring's end, brought back into it: one law for every length. Assumes nothing.
use mathlib.Core.Path.{◌≡◌, sym, ◌∙◌}
use Prim.Native.Nat.{ℕ, ◌*◌, ◌-◌, ◌%◌, ◌<◌, ◌≤◌}
use native.Mathlib.Nat.{mod-eq_of_lt, mod-eq-sub-mod, mod_self}
use native.Mathlib.Omega.{arith}
use lib.Dec.{lit≤, lit<}

pub wrap_below : (n place : ℕ) → place < n → place ≡ place % n
wrap_below n place l = sym (mod-eq_of_lt l)

pub wrap_above : (n place : ℕ) → n ≤ place → place < 2 * n → place - n ≡ place % n
wrap_above n place g l = sym (mod-eq-sub-mod g ∙ mod-eq_of_lt {n = place - n} {m = n} (omega arith))

pub wrap_end : (n place : ℕ) → place ≡ n → 0 ≡ place % n
wrap_end n place e = rw e (sym (mod_self n))

-- they can be met
wrap_meets : 959 ≡ 959 % 960
wrap_meets = wrap_below 960 959 (lit< tt)

wrap_above_meets : 1 ≡ 961 % 960
wrap_above_meets = wrap_above 960 961 (lit≤ tt) (lit< tt)

-- Which numbers are a receiver's: those whose code is 0, and what is written of a control at one of the two rates. Assumes nothing.
use mathlib.Core.Path.{◌≡◌, refl}
use mathlib.Core.Bool.{Bool, true, false, cond}
use mathlib.Core.List.{List}
use Prim.Native.Nat.{ℕ, ◌<◌}
use native.Mathlib.Omega.{arith}
use lib.ListN.{get_or}
use Rattle.shaping.specs.Rate.{rate_fit}
use Rattle.search.specs.declared.Control.{Control}
use Rattle.library_layout.specs.Layout.{is_receiver, record_code_lem, numbers_of_lem}
use Rattle.library_layout.specs.Within.{Holdable}
use Rattle.library_layout.proofs.ControlBack.{written_receiver}

both : (a b : Bool) → cond a (cond b 0 101) 115 < 100 → (a ≡ true) × (b ≡ true)
both true true few = (refl, refl)
both true false few = absurd (omega arith)
both false b few = absurd (omega arith)

pub code_tells : (n : List ℕ) → record_code_lem n < 100 → (rate_fit (get_or n 0 0) ≡ true) × (is_receiver n ≡ true)
unfolding record_code_lem
code_tells n few = both (rate_fit (get_or n 0 0)) (is_receiver n) few

pub code_none : (n : List ℕ) → rate_fit (get_or n 0 0) ≡ true → is_receiver n ≡ true → record_code_lem n ≡ 0
unfolding record_code_lem
code_none n rate good = rw (rate, good) refl

pub written_code : (rate windowCursor ringCursor : ℕ) (c : Control) → rate_fit rate ≡ true → Holdable c
    → record_code_lem (numbers_of_lem rate windowCursor ringCursor c) ≡ 0
written_code rate windowCursor ringCursor c e h =
    code_none (numbers_of_lem rate windowCursor ringCursor c) e (written_receiver rate windowCursor ringCursor c h)

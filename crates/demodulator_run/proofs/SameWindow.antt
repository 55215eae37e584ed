-- Readers that agree on the last 192 symbols give the same eight values and the same window: `eight` and `symbol_at` read no further back, at whatever place. Over p. Assumes nothing.
use mathlib.Core.Path.{◌≡◌, ap, fun_ext}
use Prim.Native.Nat.{ℕ, ◌-◌, ◌*◌, ◌≤◌, ◌<◌}
use native.Mathlib.Nat.{mul-le-mul_left}
use native.Mathlib.Omega.{arith}
use lib.Ieee.{Float}
use Rattle.decode.specs.Correlator.{symbol_of}
use Rattle.search.specs.declared.Shown.{Shown}
use Rattle.demodulator.specs.Spans.{eight, symbol_at}

module _ (p : ℕ) (some : 0 < p) (b c : ℕ → Float) (agree : (j : ℕ) → j < 192 * p → b j ≡ c j) where
  reached : (n i : ℕ) → n < 192 → p * (n - i) < 192 * p
  reached n i l = let u : p * (n - i) ≤ p * 191 = mul-le-mul_left p (omega arith) in omega arith

  pub eight_same : eight p b ≡ eight p c
  eight_same = fun_ext (λ (i : ℕ). agree (p * (7 - i)) (reached 7 i (omega arith)))

  pub window_same : (shown : Shown) → symbol_at p shown b ≡ symbol_at p shown c
  window_same shown = fun_ext (λ (i : ℕ). ap (symbol_of shown.gain shown.shift) (agree (p * (191 - i)) (reached 191 i (omega arith))))

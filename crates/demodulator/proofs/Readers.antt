-- The ring's reader: once a value is stored it is the newest, and each other value is one sample older. At every rate. Assumes nothing.
use mathlib.Core.Path.{◌≡◌, ap, ◌∙◌}
use mathlib.Core.List.{List}
use Prim.Native.Nat.{ℕ, suc, ◌+◌, ◌-◌, ◌*◌, ◌≤◌, ◌<◌}
use native.Mathlib.Nat.{mul-le-mul_left}
use native.Mathlib.Omega.{arith}
use lib.IntN.{ℤ}
use lib.ListN.{length, get_or}
use lib.Ieee.{Float, nan}
use Rattle.numbers.specs.Firsts.{firsts}
use Rattle.numbers.proofs.Firsts.{firsts_at}
use Rattle.numbers.proofs.Ring.{newest_back, older_back}
use Rattle.shaping.specs.Rate.{Rate, ring_places}
use Rattle.demodulator.specs.declared.SoftDemodulator.{SoftDemodulator}
use Rattle.demodulator.specs.Spans.{eight}
use Rattle.demodulator.specs.Record.{back, filtered_after, stored}

module _ (R : Rate) (m : SoftDemodulator) (x : ℤ) (inside : m.rx_cursor < ring_places R.p) where
  pub stored_newest : ring_places R.p ≤ length m.rx_win → back R.p (stored R m x) 0 ≡ filtered_after R m x
  unfolding stored
  stored_newest long = newest_back (ring_places R.p) nan m.rx_win m.rx_cursor (filtered_after R m x) inside long

  pub stored_older : (j : ℕ) → j + 1 < ring_places R.p → back R.p (stored R m x) (j + 1) ≡ back R.p m j
  unfolding stored
  stored_older j l = older_back (ring_places R.p) nan m.rx_win m.rx_cursor (filtered_after R m x) inside j l

  -- the values that are p, 2p, .. samples old then are p - 1, 2p - 1, .. samples old now
  pub stored_symbols : 0 < R.p → (j : ℕ) → j < 191 → back R.p (stored R m x) (R.p * suc j) ≡ back R.p m (R.p * j + (R.p - 1))
  stored_symbols some j l =
      let u : R.p * suc j ≤ R.p * 191 = mul-le-mul_left R.p l in
      let e : R.p * suc j ≡ (R.p * j + (R.p - 1)) + 1 = omega arith in
      ap (back R.p (stored R m x)) e ∙ stored_older (R.p * j + (R.p - 1)) (omega arith)

-- ---- the eight values, as a list holds them
pub eight_at : (p : ℕ) (values : List Float) (v : ℕ → Float) → values ≡ firsts (eight p v) 8 → (i : ℕ) → i < 8 → get_or values i nan ≡ eight p v i
eight_at p values v e i l = ap (λ (vs : List Float). get_or vs i nan) e ∙ firsts_at (eight p v) 8 i nan l

-- `has_pulses_only` meets its contract: after i turns the answer is that of the first i places. Assumes nothing.
use mathlib.Core.Path.{◌≡◌}
use mathlib.Core.Bool.{Bool, ◌||◌}
use mathlib.Core.List.{List}
use Prim.Native.Nat.{ℕ, ◌+◌, ◌%◌, ◌<◌}
use lib.Dec.{eqb}
use lib.Ieee.{Float, binary32, of_bits, eq}
use Rattle.numbers.specs.Below.{all_below}
use Rattle.shaping.specs.Rate.{tap_count}
use Rattle.shaping.specs.Sum.{value_at}
use Rattle.pulse.proofs.window.Ring.has_pulses_only.Given as goal

abbrev test : ℕ → List Float → ℕ → ℕ → Bool
test p window cursor i = eqb (i % p) 1 || eq (value_at p window cursor i) (of_bits binary32 0)

abbrev pub invariant-loop : goal.invariant-loop
invariant-loop l = (l.at < tap_count l.self.p) × (l.at ≡ (l.self.cursor + l.counter) % tap_count l.self.p) × (l.phase < l.self.p) × (l.phase ≡ l.counter % l.self.p) × (l.all ≡ all_below l.counter (test l.self.p l.self.values l.self.cursor))

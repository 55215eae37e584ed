-- `bad_line::first_weight` meets its contract: the weight that is found, times the first weight of what is left, is the first weight of n. Assumes nothing.
use mathlib.Core.Path.{◌≡◌, sym, ◌∙◌}
use Prim.Native.Nat.{ℕ, ◌≤◌, ◌*◌, ◌/◌, ◌^◌}
use native.Mathlib.Nat.{pow-succ', mul_assoc, mul-le-mul_left}
use native.Mathlib.Omega.{arith}
use Rattle.house.specs.BadLine.{tens}
use Rattle.house.proofs.Decimal.{tens_small, tens_step}
use Rattle.house.proofs.bad_line.first_weight.Goals as goal

pub loop-rest-init : goal.loop-rest-init
loop-rest-init c = (omega arith, omega arith)

pub overflow_mul-weight : goal.overflow_mul-weight
overflow_mul-weight c = omega (arith, mul-le-mul_left c.loop-rest.weight c.loop-rest-test.true)

pub loop-rest-smaller : goal.loop-rest-smaller
loop-rest-smaller c = omega arith

-- one division by ten, of any weight and rest
module _ (weight rest : ℕ) (large : 10 ≤ rest) where
  less : weight * 10 * (rest / 10) ≤ weight * rest
  less =
      let tenth : 10 * (rest / 10) ≤ rest = omega arith in
      rw mul_assoc (mul-le-mul_left weight tenth)

  same : weight * 10 * 10 ^ tens (rest / 10) ≡ weight * 10 ^ tens rest
  same = rw (tens_step rest large, pow-succ' 10 (tens (rest / 10)), mul_assoc)

pub loop-rest-preserved : goal.loop-rest-preserved
loop-rest-preserved c =
    let l = c.loop-rest in
    (omega (arith, less l.weight l.rest c.loop-rest-test.true), same l.weight l.rest c.loop-rest-test.true ∙ l.invariant.1)

pub returns : goal.returns
returns c =
    let l = c.loop-rest in
    let one : l.weight * 10 ^ tens l.rest ≡ l.weight = rw (tens_small l.rest c.loop-rest-test.false) (omega arith) in
    sym one ∙ l.invariant.1

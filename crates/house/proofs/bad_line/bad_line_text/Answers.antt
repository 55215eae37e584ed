-- `bad_line::bad_line_text` meets its contract: the text is written up to `at`, and the weight is that of the digit to come. Assumes nothing.
use mathlib.Core.Path.{◌≡◌, refl, sym, ap, ◌∙◌}
use Prim.Native.Nat.{ℕ, ◌<◌, ◌-◌, ◌+◌, ◌/◌, ◌%◌, ◌^◌}
use native.Mathlib.Omega.{arith}
use native.Mathlib.Numerals.{add-one}
use lib.Dec.{lit≤}
use lib.ListN.{length-set}
use Rattle.numbers.specs.Firsts.{firsts}
use Rattle.numbers.proofs.Firsts.{written_step}
use Rattle.house.specs.BadLine.{tens, bad_line_lem}
use Rattle.house.proofs.Decimal.{tens_below}
use Rattle.house.proofs.Places.{empty, byte_at, digit_at, weight_at, weight_is, before_end, at_end, whole_text}
use Rattle.house.proofs.bad_line.bad_line_text.Goals as goal
use Rattle.house.proofs.bad_line.bad_line_text.Goals.{In-loop-weight, At-loop-weight, After-loop-weight}

pub loop-weight-init : goal.loop-weight-init
unfolding firsts bad_line_lem
loop-weight-init c =
    let t = tens c.args.n in
    let whole : 9 + t - 9 ≡ t = omega arith in
    let weight : weight_at t 9 ≡ 10 ^ t = weight_is t 9 (omega arith) ∙ ap (λ (k : ℕ). 10 ^ k) whole in
    (lit≤ tt, omega arith, c.first_weight-weight.ensures ∙ sym weight, refl, refl)

-- a digit is to come, at a place of the array
to_come : (c : In-loop-weight) → c.loop-weight.at < 10 + tens c.args.n
to_come c = before_end (tens c.args.n) c.loop-weight.at (rw c.loop-weight.invariant.2 at c.loop-weight-test.true)

few : (c : At-loop-weight) → tens c.args.n < 20
few c = tens_below c.args.n c.ranges.n.fits

pub overflow_cast-bytes : goal.overflow_cast-bytes
overflow_cast-bytes c = omega arith

pub overflow_add-bytes : goal.overflow_add-bytes
overflow_add-bytes c = omega arith

pub bounds-bytes-at : goal.bounds-bytes-at
bounds-bytes-at c = omega (arith, to_come c, few c.before)

pub overflow_add-at : goal.overflow_add-at
overflow_add-at c = omega (arith, to_come c, few c.before)

pub loop-weight-smaller : goal.loop-weight-smaller
loop-weight-smaller c = omega (arith, to_come c)

pub loop-weight-preserved : goal.loop-weight-preserved
loop-weight-preserved c =
    let l = c.loop-weight in
    let n = c.args.n in
    let t = tens n in
    let weight : l.weight ≡ 10 ^ (9 + t - l.at) = l.invariant.2 ∙ weight_is t l.at (to_come c) in
    let next : 9 + t - l.at ≡ 10 + t - (l.at + 1) = omega (arith, to_come c) in
    let digit : 48 + n / l.weight % 10 ≡ byte_at n l.at = ap (λ (w : ℕ). 48 + n / w % 10) weight ∙ sym (digit_at n l.at l.invariant.0 (to_come c)) in (
      omega arith,
      omega (arith, to_come c),
      ap (λ (w : ℕ). w / 10) weight ∙ ap (λ (k : ℕ). 10 ^ k / 10) next,
      simp length-set l.invariant.3,
      rw (digit, l.invariant.4, add-one l.at) (written_step (byte_at n) l.at (empty 40) 0 (omega (arith, to_come c, few c.before))),
    )

-- and none after the loop
ended : (c : After-loop-weight) → c.loop-weight.at ≡ 10 + tens c.args.n
ended c =
    let l = c.loop-weight in
    let t = tens c.args.n in
    let none : weight_at t l.at ≡ 0 = sym l.invariant.2 ∙ omega arith in
    omega (arith, at_end t l.at none)

pub bounds-bytes-at-2 : goal.bounds-bytes-at-2
bounds-bytes-at-2 c = omega (arith, ended c, few c.before)

pub overflow_add-length : goal.overflow_add-length
overflow_add-length c = omega (arith, ended c, few c.before)

pub returns : goal.returns
returns c =
    let l = c.loop-weight in
    let n = c.args.n in
    rw (l.invariant.4, ended c) (whole_text n (few c.before))

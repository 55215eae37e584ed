-- `numbers::with_sign` meets its contract: a law of proofs/Sign.antt for each of the four ways. The machine writes -n as 0 - n. Assumes nothing.
use mathlib.Core.Path.{◌≡◌, sym, ap, ◌∙◌, subst}
use Prim.Native.Nat.{ℕ, zero, suc, ◌<◌, ◌^◌}
use native.Mathlib.Omega.{arith}
use lib.IntN.{ℤ, pos, neg_ℤ, ◌-ℤ◌, +ℤ_idl}
use mir.Syntax.{w16}
use mir.Val.{SFits, to_z}
use mir.ValLaws.{to_z_pos, to_z-of_z}
use Rattle.numbers.proofs.Sign.{in_range_lem, past_range}
use Rattle.numbers.proofs.with_sign.Goals as goal

module _ (n : ℕ) (small : n < 2 ^ 15) where
  negated : pos 0 -ℤ to_z w16 n ≡ neg_ℤ (pos n)
  negated = ap (λ (z : ℤ). pos 0 -ℤ z) (to_z_pos w16 n small) ∙ +ℤ_idl (neg_ℤ (pos n))

  negated_fits : SFits w16 (pos 0 -ℤ to_z w16 n)
  negated_fits = subst (SFits w16) (sym negated) (go n small)
    where
      go : (n : ℕ) → n < 2 ^ 15 → SFits w16 (neg_ℤ (pos n))
      go zero l = record { sfits = l }
      go (suc n) l = record { sfits = omega arith }

pub overflow_sub-result : goal.overflow_sub-result
overflow_sub-result c = negated_fits c.args.size c.if-size-lt32768.true

pub returns-then-size-lt32768 : goal.returns-then-size-lt32768
returns-then-size-lt32768 c =
    let n = c.args.size in
    to_z-of_z w16 (pos 0 -ℤ to_z w16 n) (overflow_sub-result c) ∙ negated n c.if-size-lt32768.true ∙ rw c.if-negative.true (sym (in_range_lem 15 _ n c.if-size-lt32768.true))

pub returns-else-size-lt32768 : goal.returns-else-size-lt32768
returns-else-size-lt32768 c = rw c.if-negative.true (sym (past_range 15 _ c.args.size c.if-size-lt32768.false))

pub returns-then-size-lt32768-2 : goal.returns-then-size-lt32768-2
returns-then-size-lt32768-2 c =
    let n = c.args.size in
    to_z_pos w16 n c.if-size-lt32768-2.true ∙ rw c.if-negative.false (sym (in_range_lem 15 _ n c.if-size-lt32768-2.true))

pub returns-else-size-lt32768-2 : goal.returns-else-size-lt32768-2
returns-else-size-lt32768-2 c = rw c.if-negative.false (sym (past_range 15 _ c.args.size c.if-size-lt32768-2.false))

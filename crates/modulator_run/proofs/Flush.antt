-- The zeros after the end of transmission: they enter as 0.0, and a window of zeros makes a zero sample, with any finite table. Assumes nothing.
use mathlib.Core.Path.{◌≡◌, refl, ap, ◌∙◌}
use mathlib.Core.Bool.{Bool, true, false, cond}
use mathlib.Core.List.{List, ◌++◌}
use Prim.Native.Nat.{ℕ, zero, suc, ◌+◌, ◌-◌, ◌*◌, ◌/◌, ◌%◌, ◌≤◌, ◌<◌, zero-le}
use native.Mathlib.Nat.{div-add-mod, div-eq_of_lt, mul-le-mul_left}
use native.Mathlib.Omega.{arith}
use borrow.Author.Tests.{eqb-true, le-ltb, leb-true, leb-false}
use lib.Dec.{eqb, leb}
use lib.IntN.{ℤ, pos, negsuc, nat_abs}
use lib.ListN.{length, get_or}
use lib.Ieee.{Float, binary32, of_bits, mul, to_signed}
use lib.Ieee.Positive.{num, den, den_pos}
use Rattle.numbers.specs.Sum.{nought, total_to}
use Rattle.numbers.specs.Within.{reach}
use Rattle.numbers.specs.Firsts.{firsts}
use Rattle.numbers.proofs.Bounds.{cut_within}
use Rattle.shaping.specs.Rate.{Rate}
use Rattle.shaping.specs.Sum.{dot}
use Rattle.shaping.specs.Reach.{Finite, sum_reach}
use Rattle.shaping.proofs.RateFacts.{Facts}
use Rattle.shaping.proofs.Reach.{dot_limit}
use Rattle.pulse.specs.Pulse.{pulses}
use Rattle.modulator.specs.Frame.{ending}
use Rattle.modulator_run.specs.Stream.{entering_at, sent_at}
use Rattle.modulator_run.specs.EndFrame.{end_samples, silent_samples}
use Rattle.modulator_run.proofs.Entered.{no_pulse}
use Rattle.modulator_run.proofs.Longer.{entering_new}

-- ---- a window of zeros
reach_nothing : (t : Float) → reach t 0 ≡ 0
unfolding reach
reach_nothing t = let some : 0 < den t = den_pos t in let low : num t * 0 + (den t - 1) < den t = omega arith in div-eq_of_lt low

total_nothing : (table : List Float) (n : ℕ) → total_to (λ (i : ℕ). reach (get_or table i nought) 0) n ≡ 0
unfolding total_to
total_nothing table zero = refl
total_nothing table (suc n) = rw (total_nothing table n, reach_nothing (get_or table n nought))

no_size : (z : ℤ) → nat_abs z ≤ 0 → z ≡ pos 0
no_size (pos n) h = let none : n ≡ 0 = omega arith in ap pos none
no_size (negsuc n) h = let never : ⊥ = omega arith in absurd never

pub silent_sum : (table : List Float) → Finite table → (w : ℕ → Float) → ((i : ℕ) → i < length table → w i ≡ of_bits binary32 0) → to_signed 15 (dot table w) ≡ pos 0
unfolding sum_reach of_bits
silent_sum table fine w h =
    no_size (to_signed 15 (dot table w)) (cut_within 15 (dot table w) 0
    (dot_limit table fine w (λ _. 0) 0 (rw (total_nothing table (length table)) zero-le) zero-le (λ i l. rw (h i l) (tt, zero-le))))

-- ---- the flush
-- after the first sample of symbol 191, the last that is not zero
module _ (p : ℕ) (some : 0 < p) where
  flushed : (t : ℕ) → 191 * p < t → t % p ≡ 0 → 192 ≤ t / p
  flushed t l z = by_test (leb 192 (t / p)) refl
    where
      by_test : (b : Bool) → leb 192 (t / p) ≡ b → 192 ≤ t / p
      by_test true e = leb-true 192 (t / p) e
      by_test false e =
          let few : t / p ≤ 191 = omega (arith, leb-false 192 (t / p) e) in
          let short : p * (t / p) ≤ p * 191 = mul-le-mul_left p few in
          let never : ⊥ = omega (arith, div-add-mod t p) in
          absurd never

  pub flush_pulse : (t : ℕ) → 191 * p < t → pulses p ending.symbol t ≡ of_bits binary32 0
  unfolding pulses
  flush_pulse t l = by_test (eqb (t % p) 0) refl
    where
      by_test : (b : Bool) → eqb (t % p) 0 ≡ b → cond b (mul binary32 (ending.symbol (t / p)) (of_bits binary32 0x470a_8500)) (of_bits binary32 0) ≡ of_bits binary32 0
      by_test true e = rw (le-ltb (t / p) 192 (flushed t l (eqb-true (t % p) 0 e))) no_pulse
      by_test false e = refl

-- ---- the stream
-- after any symbols, the last 73p - 1 samples of the end are zero
pub end_silent : (R : Rate) → Facts R → (xs : List Float) (i : ℕ) → i < silent_samples R.p
    → sent_at R (xs ++ firsts ending.symbol ending.count) (R.p * length xs + ((end_samples R.p - silent_samples R.p) + i) + 1) ≡ pos 0
unfolding sent_at
end_silent R F xs i l =
    silent_sum R.taps F.finite _ λ j k.
    let p = R.p in
    let some : 0 < p = let u = F.some in omega arith in
    let t : ℕ = (191 * p + 1) + (i + j) in
    let at : (p * length xs + ((end_samples p - silent_samples p) + i) + 1 + j) - 8 * p ≡ suc (p * length xs + t) = omega arith in
    ap (entering_at p (xs ++ firsts ending.symbol ending.count)) at
    ∙ entering_new p xs ending.symbol ending.count t (omega (arith, F.number))
    ∙ flush_pulse p some t (omega arith)

-- A stream of symbols with more symbols after it: what entered before them is as it was, and then the new ones enter. Assumes nothing.
use mathlib.Core.Path.{◌≡◌, refl, sym, ap, ◌∙◌}
use mathlib.Core.List.{List, ◌++◌}
use Prim.Native.Nat.{ℕ, zero, suc, ◌+◌, ◌-◌, ◌*◌, ◌/◌, ◌≤◌, ◌<◌}
use native.Mathlib.Nat.{add_comm, add-mul-div_left, mul-add-mod_self_left}
use native.Mathlib.Omega.{arith}
use lib.ListN.{length, get_or-append}
use lib.Seq.{get_or-append-add}
use lib.Ieee.{Float, binary32, of_bits, to_signed}
use Rattle.numbers.specs.Firsts.{firsts}
use Rattle.numbers.proofs.Firsts.{firsts_at}
use Rattle.shaping.specs.Rate.{Rate}
use Rattle.shaping.proofs.RateFacts.{Facts}
use Rattle.shaping.proofs.Dot.{dot_same}
use Rattle.pulse.specs.Pulse.{pulses}
use Rattle.pulse.proofs.Pulses.{symbol_inside, pulses_same}
use Rattle.modulator_run.specs.Stream.{entering_at, sent_at}
use Rattle.modulator_run.proofs.Entered.{symbol_no, entering_pulse}

-- some sample is made
some_made : (p n t : ℕ) → t < p * n → 0 < p
some_made zero n t l = let never : ⊥ = omega arith in absurd never
some_made (suc q) n t l = omega arith

module _ (p : ℕ) (xs : List Float) where
  pub entering_old : (ys : List Float) (t : ℕ) → t ≤ p * length xs → entering_at p (xs ++ ys) t ≡ entering_at p xs t
  unfolding entering_at
  entering_old ys zero h = refl
  entering_old ys (suc t) h =
      let some = some_made p (length xs) t h in
      entering_pulse p some (xs ++ ys) t
      ∙ pulses_same p (symbol_no (xs ++ ys)) (symbol_no xs) (length xs) (λ i l. get_or-append xs ys (of_bits binary32 0) i l) t h
      ∙ sym (entering_pulse p some xs t)

  -- the symbol at hand at sample t of what follows
  place : (t : ℕ) → 0 < p → (p * length xs + t) / p ≡ length xs + t / p
  place t some = ap (λ (n : ℕ). n / p) (add_comm (p * length xs) t) ∙ add-mul-div_left t (length xs) some ∙ add_comm (t / p) (length xs)

  pub entering_new : (symbol : ℕ → Float) (n t : ℕ) → t < p * n → entering_at p (xs ++ firsts symbol n) (suc (p * length xs + t)) ≡ pulses p symbol t
  unfolding pulses
  entering_new symbol n t h =
      let some = some_made p n t h in
      rw (entering_pulse p some (xs ++ firsts symbol n) (p * length xs + t), place t some, mul-add-mod_self_left p (length xs) t, get_or-append-add xs (firsts symbol n) (t / p) (of_bits binary32 0), firsts_at symbol n (t / p) (of_bits binary32 0) (symbol_inside p n t h))

-- a sample is made of what has entered with it
pub sent_old : (R : Rate) → Facts R → (xs ys : List Float) (t : ℕ) → t ≤ R.p * length xs → sent_at R (xs ++ ys) t ≡ sent_at R xs t
unfolding sent_at
sent_old R F xs ys t h =
    ap (to_signed 15) (dot_same R.taps _ _ λ i l. entering_old R.p xs ys ((t + i) - 8 * R.p) (omega (arith, F.number, h, l)))

-- What enters the window, read off the list of symbols, is what enters at each sample's place in its symbol. Assumes nothing.
use mathlib.Core.Path.{◌≡◌, refl, sym, ap, ◌∙◌}
use mathlib.Core.Bool.{Bool, true, false, cond}
use mathlib.Core.List.{List, [], ◌∷◌, ◌++◌}
use Prim.Native.Nat.{ℕ, zero, suc, ◌+◌, ◌-◌, ◌/◌, ◌%◌, ◌<◌}
use native.Mathlib.Nat.{zero-mod, zero-div, add-mod_left, add-div_left}
use native.Mathlib.Numerals.{add-one}
use native.Mathlib.Omega.{arith}
use borrow.Author.Tests.{ltb-true, ltb-false}
use lib.Dec.{eqb, ltb}
use lib.ListN.{length, get_or, replicate, length-replicate, get_or-replicate, get_or-append}
use lib.Seq.{get_or-append-add}
use lib.Ieee.{Float, binary32, of_bits, mul}
use Rattle.pulse.specs.Pulse.{pulses}
use Rattle.pulse.proofs.Pulses.{gap}
use Rattle.modulator_run.specs.Stream.{entered, entering_at}

-- symbol i, and 0.0 past the last
abbrev pub symbol_no : List Float → ℕ → Float
symbol_no symbols i = get_or symbols i (of_bits binary32 0)

-- a symbol of 0.0 makes no pulse
pub no_pulse : mul binary32 (of_bits binary32 0) (of_bits binary32 0x470a_8500) ≡ of_bits binary32 0
unfolding mul of_bits
no_pulse = refl

module _ (q : ℕ) where
  abbrev p : ℕ
  p = suc q

  -- a symbol later
  later : (symbol : ℕ → Float) (u : ℕ) → pulses p symbol (p + u) ≡ pulses p (λ (i : ℕ). symbol (suc i)) u
  unfolding pulses
  later symbol u = rw (add-mod_left p u, add-div_left u {k = p} (omega arith), add-one (u / p))

  by_place : (symbols : List Float) (t : ℕ) → get_or (entered p symbols) t (of_bits binary32 0) ≡ pulses p (symbol_no symbols) t
  unfolding entered pulses
  by_place [] t = silent (eqb (t % p) 0)
    where
      silent : (b : Bool) → of_bits binary32 0 ≡ cond b (mul binary32 (of_bits binary32 0) (of_bits binary32 0x470a_8500)) (of_bits binary32 0)
      silent true = sym no_pulse
      silent false = refl
  by_place (s ∷ ss) zero = rw (zero-mod p, zero-div p)
  by_place (s ∷ ss) (suc t) = by_test (by_place ss (t - q)) (ltb t q) refl
    where
      zeros : List Float
      zeros = replicate (p - 1) (of_bits binary32 0)

      by_test : get_or (entered p ss) (t - q) (of_bits binary32 0) ≡ pulses p (symbol_no ss) (t - q) → (b : Bool) → ltb t q ≡ b → get_or (zeros ++ entered p ss) t (of_bits binary32 0) ≡ pulses p (symbol_no (s ∷ ss)) (suc t)
      by_test more true e =
          let l : t < p - 1 = omega (arith, ltb-true t q e) in
          get_or-append zeros (entered p ss) (of_bits binary32 0) t (rw (length-replicate (p - 1) (of_bits binary32 0)) l)
          ∙ get_or-replicate (p - 1) t (of_bits binary32 0) (of_bits binary32 0) l
          ∙ sym (gap p (symbol_no (s ∷ ss)) (suc t) (omega arith) (omega arith))
      by_test more false e =
          let far = ltb-false t q e in
          let along : t ≡ length zeros + (t - q) = omega (arith, far, length-replicate (p - 1) (of_bits binary32 0)) in
          let whole : p + (t - q) ≡ suc t = omega (arith, far) in
          ap (λ (n : ℕ). get_or (zeros ++ entered p ss) n (of_bits binary32 0)) along
          ∙ get_or-append-add zeros (entered p ss) (t - q) (of_bits binary32 0)
          ∙ more
          ∙ sym (later (symbol_no (s ∷ ss)) (t - q))
          ∙ ap (pulses p (symbol_no (s ∷ ss))) whole

pub entering_pulse : (p : ℕ) → 0 < p → (symbols : List Float) (t : ℕ) → entering_at p symbols (suc t) ≡ pulses p (symbol_no symbols) t
unfolding entering_at
entering_pulse zero some symbols t = let never : ⊥ = omega arith in absurd never
entering_pulse (suc q) some symbols t = by_place q symbols t

-- What enters the window, at p samples a symbol: a symbol's pulse at its first sample, and zero at the others. Assumes nothing.
use mathlib.Core.Path.{◌≡◌, ap, ◌∙◌}
use Prim.Native.Nat.{ℕ, zero, suc, ◌+◌, ◌*◌, ◌/◌, ◌<◌}
use native.Mathlib.Nat.{mul_comm, div-lt_iff_lt-mul, add_comm, mod-eq_of_lt, div-eq_of_lt, add-mul-div_left, mul-mod_right, mul-div_cancel_left, mul-add-mod_self_left}
use native.Mathlib.Omega.{arith}
use borrow.Author.Tests.{ne_eqb}
use lib.Ieee.{Float, binary32, of_bits, mul}
use Rattle.pulse.specs.Pulse.{pulses}

-- the symbol of sample j of symbol i
pub symbol_of : (p i j : ℕ) → j < p → (p * i + j) / p ≡ i
symbol_of p i j h =
    let some : 0 < p = omega arith in
    ap (λ (t : ℕ). t / p) (add_comm (p * i) j) ∙ add-mul-div_left j i some ∙ omega (arith, div-eq_of_lt h)

module _ (p : ℕ) (symbol : ℕ → Float) where
  -- a symbol's samples are those of a symbol alone
  pub alone : (i j : ℕ) → j < p → pulses p symbol (p * i + j) ≡ pulses p (λ (_ : ℕ). symbol i) j
  unfolding pulses
  alone i j h = rw (mul-add-mod_self_left p i j, symbol_of p i j h)

  pub pulse_at : (i : ℕ) → 0 < p → pulses p symbol (p * i) ≡ mul binary32 (symbol i) (of_bits binary32 0x470a_8500)
  unfolding pulses
  pulse_at i h = rw (mul-mod_right p i, mul-div_cancel_left i h)

  pub pulse_first : 0 < p → pulses p symbol 0 ≡ mul binary32 (symbol 0) (of_bits binary32 0x470a_8500)
  pulse_first h = ap (pulses p symbol) {x = 0} {y = p * 0} (omega arith) ∙ pulse_at 0 h

  pub gap : (j : ℕ) → 0 < j → j < p → pulses p symbol j ≡ of_bits binary32 0
  unfolding pulses
  gap j some h = rw (mod-eq_of_lt h, ne_eqb j 0 λ e. omega arith)

pub gap_at : (p : ℕ) (symbol : ℕ → Float) (i j : ℕ) → 0 < j → j < p → pulses p symbol (p * i + j) ≡ of_bits binary32 0
gap_at p symbol i j some h = alone p symbol i j h ∙ gap p (λ (_ : ℕ). symbol i) j some h

-- sample t of n symbols is of one of them
pub symbol_inside : (p n t : ℕ) → t < p * n → t / p < n
symbol_inside zero n t l = let never : ⊥ = omega arith in absurd never
symbol_inside (suc p) n t l =
    let some : 0 < suc p = omega arith in
    (div-lt_iff_lt-mul some).1 (rw (mul_comm n (suc p)) l)

-- symbols that agree make pulses that agree
pub pulses_same : (p : ℕ) (f g : ℕ → Float) (n : ℕ) → ((i : ℕ) → i < n → f i ≡ g i) → (t : ℕ) → t < p * n → pulses p f t ≡ pulses p g t
unfolding pulses
pulses_same p f g n h t l = rw (h (t / p) (symbol_inside p n t l))

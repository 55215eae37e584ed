-- Every sample of a stream is the tap sum of a window at one phase: a symbol at every p-th place, and zero at the others. Assumes nothing.
use mathlib.Core.Path.{◌≡◌, refl, sym, ap, ◌∙◌}
use mathlib.Core.Logic.{◌≢◌}
use mathlib.Core.Bool.{Bool, true, false}
use mathlib.Core.List.{List}
use Prim.Native.Nat.{ℕ, zero, suc, ◌+◌, ◌-◌, ◌*◌, ◌/◌, ◌%◌, ◌^◌, ◌≤◌, ◌<◌}
use native.Mathlib.Nat.{mod-lt, suc-mul, add-mul-mod_self_left, mul-add-mod_self_left, div-add-mod}
use native.Mathlib.Omega.{arith}
use borrow.Author.Tests.{ltb-true, ltb-false, ne_eqb}
use lib.Dec.{T, ltb}
use lib.IntN.{nat_abs}
use lib.ListN.{length, get_or, get_or-eq_default}
use lib.Ieee.{Float, nan, binary32, prec, of_bits, to_signed}
use Rattle.numbers.specs.Within.{Within}
use Rattle.numbers.proofs.Bounds.{cut_within}
use Rattle.shaping.specs.Rate.{Rate, tap_count}
use Rattle.shaping.specs.Sum.{dot}
use Rattle.shaping.specs.Reach.{Finite}
use Rattle.shaping.specs.Phase.{full_symbol, Phase, phases_fit}
use Rattle.shaping.proofs.Dot.{inside}
use Rattle.shaping.proofs.Sender.{phase_limit}
use Rattle.pulse.specs.Pulse.{pulses}
use Rattle.modulator_laws.proofs.Sizes.{symbol_size, pulses_size}
use Rattle.modulator_run.specs.Stream.{entering_at, sent_at}
use Rattle.modulator_run.specs.Loudness.{SymbolsFit}
use Rattle.modulator_run.proofs.Entered.{symbol_no, entering_pulse}

nought_within : (n : ℕ) → Within (of_bits binary32 0) n
unfolding of_bits
nought_within n = (tt, omega arith)

-- past the last symbol it is 0.0
symbol_within : (symbols : List Float) → SymbolsFit symbols → (i : ℕ) → Within (symbol_no symbols i) 1
symbol_within symbols fit i = by_test (ltb i (length symbols)) refl
  where
    by_test : (t : Bool) → ltb i (length symbols) ≡ t → Within (symbol_no symbols i) 1
    by_test true e =
        let l = ltb-true i (length symbols) e in
        rw (inside symbols i (of_bits binary32 0) nan l) (symbol_size (get_or symbols i nan) (fit i l))
    by_test false e = rw (get_or-eq_default symbols (of_bits binary32 0) (ltb-false i (length symbols) e)) (nought_within 1)

-- the place of the first symbol in the window at sample t, at 1 + q samples a symbol
abbrev pub phase_of : ℕ → ℕ → ℕ
phase_of q t = (1 + q * t) % suc q

module _ (q : ℕ) (symbols : List Float) (fit : SymbolsFit symbols) where
  abbrev p : ℕ
  p = suc q

  entering_within : (u : ℕ) → Within (entering_at p symbols u) full_symbol
  unfolding entering_at
  entering_within zero = nought_within full_symbol
  entering_within (suc v) =
      let far : suc v ≤ suc q * suc v = rw (suc-mul q (suc v)) (omega arith) in
      rw (entering_pulse p (omega arith) symbols v) (pulses_size p (symbol_no symbols) (suc v) (λ i _. symbol_within symbols fit i) v far)

  -- a pulse enters with the first of a symbol's samples
  pulse_place : (t i v : ℕ) → t + i ≡ suc v + 8 * p → v % p ≡ 0 → i % p ≡ phase_of q t
  pulse_place t i v e z =
      let whole : p * (v / p) ≡ v = omega (arith, div-add-mod v p, z) in
      let turned : i + p * t ≡ p * (v / p + 8) + (1 + q * t) = rw (suc-mul q t) (omega (arith, whole, e)) in
      sym (add-mul-mod_self_left i p t) ∙ ap (λ (n : ℕ). n % p) turned ∙ mul-add-mod_self_left p (v / p + 8) (1 + q * t)

  gap_within : (t i u : ℕ) → u ≡ (t + i) - 8 * p → i % p ≢ phase_of q t → Within (entering_at p symbols u) 0
  unfolding entering_at pulses
  gap_within t i zero e n = nought_within 0
  gap_within t i (suc v) e n = rw (entering_pulse p (omega arith) symbols v, ne_eqb (v % p) 0 λ z. n (pulse_place t i v (omega arith) z)) (nought_within 0)

  pub at_phase : (t : ℕ) → Phase p (phase_of q t) full_symbol (λ (i : ℕ). entering_at p symbols ((t + i) - 8 * p))
  at_phase t = record { symbols = λ i l e. entering_within ((t + i) - 8 * p); gaps = λ i l n. gap_within t i ((t + i) - 8 * p) refl n }

-- at every rate whose phases come to the limit at most
pub stream_within : (R : Rate) (limit : ℕ) → 0 < R.p → Finite R.taps → length R.taps ≡ tap_count R.p → T (phases_fit R.taps R.p full_symbol limit) → limit ≤ 2 ^ prec binary32
    → (symbols : List Float) → SymbolsFit symbols → (t : ℕ) → nat_abs (sent_at R symbols t) ≤ limit
unfolding sent_at
stream_within R limit some fine size fits L symbols fit t = by_samples R.p some size fits
  where
    by_samples : (p : ℕ) → 0 < p → length R.taps ≡ tap_count p → T (phases_fit R.taps p full_symbol limit)
        → nat_abs (to_signed 15 (dot R.taps (λ (i : ℕ). entering_at p symbols ((t + i) - 8 * p)))) ≤ limit
    by_samples zero some size fits = let never : ⊥ = omega arith in absurd never
    by_samples (suc q) some size fits = cut_within 15 _ limit (phase_limit R.taps (suc q) full_symbol limit fine size fits L (phase_of q t) (mod-lt (1 + q * t) (omega arith)) _ (at_phase q symbols fit t))

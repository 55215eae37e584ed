-- What a stored sample leaves: samples of 16 bits in the window, a window and a ring of their lengths, and eight values in range. Assumes nothing.
use mathlib.Core.Path.{◌≡◌}
use mathlib.Core.Logic.{⊎_elim}
use mathlib.Core.Bool.{true}
use mathlib.Core.List.{List, [], ◌∷◌}
use Prim.Native.Nat.{ℕ, zero, suc, ◌+◌, ◌-◌, ◌*◌, ◌≤◌, ◌<◌}
use native.Mathlib.Nat.{eq-or-lt_of_le, le_of_suc-le-suc, mul-zero}
use native.Mathlib.Omega.{arith}
use lib.Dec.{T, lit≤}
use lib.IntN.{ℤ, pos}
use lib.ListN.{length, get_or, set, length-set}
use lib.Ieee.{Float}
use mir.Syntax.{w16}
use mir.Val.{SFits}
use Rattle.shaping.specs.Rate.{Rate, at48, tap_count, window_places, ring_places}
use Rattle.shaping.proofs.RateFacts.{Facts, facts48}
use Rattle.shaping.proofs.Receiver.{straight_bounded}
use Rattle.decode.specs.Correlator.{in_range}
use Rattle.decode.proofs.RangeFacts.{within_range}
use Rattle.demodulator.specs.declared.SoftDemodulator.{SoftDemodulator}
use Rattle.demodulator.specs.Spans.{eight}
use Rattle.demodulator.specs.Record.{back, window_after, filtered_after, stored}
use Rattle.demodulator.specs.Fit.{fit_for_sample_lem}
use Rattle.demodulator.proofs.Fitness.{record_facts, sample_record, sample_seven}
use Rattle.demodulator.proofs.Readers.{stored_newest, stored_symbols}

-- what their types say of the window and of the ring: samples of 16 bits, and no fewer places than are used
pub record Rings (p : ℕ) (window : List ℤ) (ring : List Float) : Type 0 where
  pub samples : (i : ℕ) → SFits w16 (get_or window i (pos 0))
  pub window_places_lem : window_places p ≤ length window
  pub places : ring_places p ≤ length ring

-- ---- the window
-- what holds of a value that is written, and of that which was at a place, holds of what is there after it
pub set_holds : {A : Type 0} (P : A → Type 0) (l : List A) (at i : ℕ) (x d : A) → P x → P (get_or l i d) → P (get_or (set l at x) i d)
set_holds P [] at i x d new old = old
set_holds P (y ∷ l) zero zero x d new old = new
set_holds P (y ∷ l) zero (suc i) x d new old = old
set_holds P (y ∷ l) (suc at) zero x d new old = old
set_holds P (y ∷ l) (suc at) (suc i) x d new old = set_holds P l at i x d new old

module _ (R : Rate) (F : Facts R) (m : SoftDemodulator) (x : ℤ) (rings : Rings R.p m.filter_win m.rx_win) (fits : SFits w16 x) where
  pub window_fits : (i : ℕ) → SFits w16 (get_or (window_after R.p m x) i (pos 0))
  window_fits i =
      set_holds (SFits w16) (set m.filter_win m.filter_cursor x) (m.filter_cursor + tap_count R.p) i x (pos 0) fits
      (set_holds (SFits w16) m.filter_win m.filter_cursor i x (pos 0) fits (rings.samples i))

  pub new_in_range : T (in_range (filtered_after R m x))
  new_in_range = within_range (filtered_after R m x) (straight_bounded R F (window_after R.p m x) (m.filter_cursor + 1) (λ i l. window_fits (m.filter_cursor + 1 + i)))

  pub stored_rings : Rings R.p (stored R m x).filter_win (stored R m x).rx_win
  unfolding stored
  stored_rings = record {
    samples = window_fits;
    window_places_lem = omega (arith, rings.window_places_lem, length-set (set m.filter_win m.filter_cursor x) (m.filter_cursor + tap_count R.p) x, length-set m.filter_win m.filter_cursor x);
    places = rw (length-set m.rx_win m.rx_cursor (filtered_after R m x)) rings.places;
  }

-- ---- the eight values, once the sample is stored
module _ (R : Rate) (F : Facts R) (m : SoftDemodulator) (x : ℤ) (rings : Rings R.p m.filter_win m.rx_win) (fits : SFits w16 x) (fit : fit_for_sample_lem R.p m ≡ true) where
  inside : m.rx_cursor < ring_places R.p
  inside = (record_facts R.p m (sample_record R.p m fit)).ring_cursor

  some : 0 < R.p
  some = omega (arith, F.some)

  pub stored_eight : (i : ℕ) → i < 8 → T (in_range (eight R.p (back R.p (stored R m x)) i))
  stored_eight i l =
      ⊎_elim
      (λ (e : i ≡ 7).
      let none : R.p * (7 - i) ≡ 0 = rw e (mul-zero R.p) in
      rw (none, stored_newest R m x inside rings.places) (new_in_range R F m x rings fits))
      (λ (k : i < 7).
      let e : 7 - i ≡ suc (6 - i) = omega arith in
      rw (e, stored_symbols R m x inside some (6 - i) (omega arith)) (sample_seven R.p m fit (6 - i) (omega arith)))
      (eq-or-lt_of_le (le_of_suc-le-suc l))

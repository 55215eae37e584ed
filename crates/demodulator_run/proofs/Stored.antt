-- The window and the ring of the record after an admitted sample hold what the rules say, and those of a fresh record do. Assumes nothing.
use mathlib.Core.Path.{◌≡◌, refl, sym, ap, subst, ◌∙◌}
use mathlib.Core.Logic.{inl, inr}
use mathlib.Core.List.{List, [], ◌∷◌, ◌++◌}
use Prim.Native.Nat.{ℕ, zero, suc, ◌+◌, ◌-◌, ◌*◌, ◌%◌, ◌≤◌, ◌<◌}
use native.Mathlib.Nat.{mod-lt, lt_of_lt_of_le, eq-or-lt_of_le}
use native.Mathlib.Omega.{arith}
use lib.IntN.{ℤ, pos}
use lib.ListN.{length, get_or, set, replicate, length-append, length-replicate, get_or-replicate}
use lib.Ieee.{Float, nan, binary32, of_bits}
use Rattle.numbers.proofs.Ring.{Recent, push, by_age, from_ages}
use Rattle.shaping.specs.Rate.{Rate, tap_count, window_places, ring_places}
use Rattle.shaping.proofs.RateFacts.{Facts}
use Rattle.demodulator.specs.declared.SoftDemodulator.{SoftDemodulator}
use Rattle.demodulator.specs.Record.{fresh, window_after, filtered_after, stored}
use Rattle.demodulator.proofs.Halves.{doubled_agree, summed_older, summed_newest, stored_long, stored_halves, stored_view}
use Rattle.demodulator_run.specs.Run.{fresh_at}
use Rattle.demodulator_run.specs.Filter.{sample_no_lem, filtered}
use Rattle.demodulator_run.specs.Represents.{Remembers}
use Rattle.demodulator_run.proofs.Sixteen.{taps_size}
use Rattle.demodulator_run.proofs.Causal.{sample_old, sample_new, filtered_old, filtered_window}

module _ (R : Rate) (F : Facts R) where
  one_more : (xs : List ℤ) (x : ℤ) → length (xs ++ (x ∷ [])) ≡ suc (length xs)
  one_more xs x = length-append xs (x ∷ []) ∙ omega arith

  -- ---- the filtered values as a ring
  abbrev Values : List ℤ → List Float → ℕ → ℕ → Type 0
  Values xs ring cursor n = Recent (ring_places R.p) nan (filtered R.taps R.p xs) n ring cursor

  module _ (m : SoftDemodulator) (xs : List ℤ) (r : Remembers R m xs) where
    values_of : Values xs m.rx_win m.rx_cursor (length xs)
    values_of = from_ages (ring_places R.p) nan (filtered R.taps R.p xs) (length xs) m.rx_win m.rx_cursor r.ring_places_lem r.ring_cursor r.ring

    -- ---- one more sample
    module _ (x : ℤ) where
      -- the samples that the new filtered value is the sum of
      summed : (i : ℕ) → i < tap_count R.p
          → get_or (window_after R.p m x) (m.filter_cursor + 1 + i) (pos 0) ≡ sample_no_lem (xs ++ (x ∷ [])) ((suc (length xs) + i) - 8 * R.p)
      summed i l = elim (eq-or-lt_of_le l) [
        | inl e ↦
            summed_newest R m x r.window_cursor r.window_places_lem i (omega arith)
            ∙ sym (ap (sample_no_lem (xs ++ (x ∷ []))) {x = (suc (length xs) + i) - 8 * R.p} {y = suc (length xs)} (omega arith) ∙ sample_new xs x)
        | inr k ↦
            summed_older R m x r.window_cursor i (omega arith)
            ∙ r.window (i + 1) (omega arith)
            ∙ sym (ap (sample_no_lem (xs ++ (x ∷ []))) {x = (suc (length xs) + i) - 8 * R.p} {y = (length xs + (i + 1) + 1) - tap_count R.p} (omega arith)
            ∙ sample_old xs x ((length xs + (i + 1) + 1) - tap_count R.p) (omega arith))
      ]

      -- the value that goes into the ring is F at the new sample
      newest_filtered : filtered R.taps R.p (xs ++ (x ∷ [])) (suc (length xs)) ≡ filtered_after R m x
      newest_filtered =
          filtered_window R.taps R.p (taps_size R F) (xs ++ (x ∷ [])) (length xs) (λ (i : ℕ). get_or (window_after R.p m x) (m.filter_cursor + 1 + i) (pos 0)) summed

      values_more : Values (xs ++ (x ∷ [])) (set m.rx_win m.rx_cursor (filtered_after R m x)) ((m.rx_cursor + 1) % ring_places R.p) (suc (length xs))
      values_more =
          push (ring_places R.p) nan (filtered R.taps R.p xs) (filtered R.taps R.p (xs ++ (x ∷ []))) (length xs) m.rx_win m.rx_cursor (filtered_after R m x) values_of
          (filtered_old R.taps R.p (taps_size R F) xs x) newest_filtered

      ring_more : Values (xs ++ (x ∷ [])) (stored R m x).rx_win (stored R m x).rx_cursor (length (xs ++ (x ∷ [])))
      unfolding stored
      ring_more =
          subst (Values (xs ++ (x ∷ [])) (set m.rx_win m.rx_cursor (filtered_after R m x)) ((m.rx_cursor + 1) % ring_places R.p)) (sym (one_more xs x)) values_more

      cursor_inside : (stored R m x).filter_cursor < tap_count R.p
      unfolding stored
      cursor_inside = mod-lt (m.filter_cursor + 1) (omega arith)

      pub stored_remembers : Remembers R (stored R m x) (xs ++ (x ∷ []))
      stored_remembers = record {
        window_places_lem = stored_long R m x r.window_cursor r.window_places_lem;
        window_halves = stored_halves R m x r.window_cursor r.window_places_lem r.window_halves;
        window_cursor = cursor_inside;
        window = λ i l.
            stored_view R m x r.window_cursor r.window_places_lem r.window_halves i l
            ∙ summed i l
            ∙ ap (sample_no_lem (xs ++ (x ∷ []))) {x = (suc (length xs) + i) - 8 * R.p} {y = (length (xs ++ (x ∷ [])) + i + 1) - tap_count R.p} (omega (arith, one_more xs x));
        ring_places_lem = ring_more.long;
        ring_cursor = ring_more.inside;
        ring = by_age (ring_places R.p) nan (filtered R.taps R.p (xs ++ (x ∷ []))) (length (xs ++ (x ∷ []))) (stored R m x).rx_win (stored R m x).rx_cursor ring_more;
      }

  -- ---- the start
  no_sample : (k : ℕ) → sample_no_lem [] k ≡ pos 0
  unfolding sample_no_lem
  no_sample zero = refl
  no_sample (suc k) = refl

  nothing_filtered : (xs : List ℤ) → of_bits binary32 0 ≡ filtered R.taps R.p xs 0
  unfolding filtered of_bits
  nothing_filtered xs = refl

  window_inside : window_places R.p ≤ 162
  window_inside = let u = F.few in omega arith

  ring_inside : ring_places R.p ≤ 1920
  ring_inside = let u = F.few in omega arith

  ring_some : 0 < ring_places R.p
  ring_some = let u = F.some in omega arith

  zero_at : (i : ℕ) → i < 162 → get_or (replicate 162 (pos 0)) i (pos 0) ≡ pos 0
  zero_at i l = get_or-replicate 162 i (pos 0) (pos 0) l

  pub fresh_remembers : Remembers R (fresh_at R) []
  unfolding fresh
  fresh_remembers = record {
    window_places_lem = let u = window_inside in omega (arith, length-replicate 162 (pos 0));
    window_halves = doubled_agree R.p (replicate 162 (pos 0)) (λ i l. zero_at i (omega (arith, window_inside)) ∙ sym (zero_at (i + tap_count R.p) (omega (arith, window_inside))));
    window_cursor = omega arith;
    window = λ i l. zero_at (0 + i) (omega (arith, window_inside)) ∙ sym (no_sample ((0 + i + 1) - tap_count R.p));
    ring_places_lem = let u = ring_inside in omega (arith, length-replicate 1920 (of_bits binary32 0));
    ring_cursor = ring_some;
    ring = λ j l.
        get_or-replicate 1920 ((0 + (ring_places R.p - 1 - j)) % ring_places R.p) (of_bits binary32 0) nan (lt_of_lt_of_le (mod-lt (0 + (ring_places R.p - 1 - j)) ring_some) ring_inside)
        ∙ nothing_filtered []
        ∙ ap (filtered R.taps R.p []) {x = 0} {y = 0 - j} (omega arith);
  }

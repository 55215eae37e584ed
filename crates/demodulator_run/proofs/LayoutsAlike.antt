-- The two layouts of the window side by side: records that hold the same are fit alike, and hold the same once a sample is stored. Assumes nothing.
use Rattle.std.specs.Prelude.{Option}
use Rattle.search.specs.declared.Waiting.{Waiting}
use mathlib.Core.Path.{◌≡◌, refl, sym, ap, ◌∙◌}
use mathlib.Core.Logic.{inl, inr}
use mathlib.Core.Bool.{Bool, true, ◌&&◌}
use mathlib.Core.List.{List}
use Prim.Native.Nat.{ℕ, zero, suc, ◌+◌, ◌-◌, ◌*◌, ◌%◌, ◌≤◌, ◌<◌}
use native.Mathlib.Nat.{mod-lt, eq-or-lt_of_le, lt_of_lt_of_le, mul-le-mul_left}
use native.Mathlib.Omega.{arith}
use borrow.Author.Tests.{lt-ltb}
use lib.IntN.{ℤ, pos}
use lib.ListN.{length, get_or, set, replicate, length-set, length-replicate, get_or-replicate}
use lib.Ieee.{Float, nan, binary32, of_bits, of_int}
use Rattle.numbers.specs.Below.{all_below}
use Rattle.numbers.proofs.Below.{all_same}
use Rattle.numbers.proofs.Ring.{read, older, newest, newest_back, older_back}
use Rattle.shaping.specs.Rate.{per_second, Rate, tap_count, ring_places}
use Rattle.shaping.proofs.RateFacts.{Facts}
use Rattle.shaping.proofs.Dot.{dot_same}
use Rattle.decode.specs.Correlator.{in_range}
use Rattle.search.specs.declared.Control.{Control}
use Rattle.demodulator.specs.declared.SoftDemodulator.{SoftDemodulator}
use Rattle.demodulator.specs.Record.{fresh_control, fresh, assembled, with_control, back, view, window_after, filtered_after, stored}
use Rattle.demodulator.specs.Fit.{cursors_fit, record_fit_lem, places_read_lem, fit_for_sample_lem, fit_for_reply_lem}
use Rattle.demodulator.proofs.Fitness.{places_between}
use Rattle.demodulator.proofs.Halves.{doubled_agree, summed_older, summed_newest, stored_long, stored_halves, stored_view}
use Rattle.demodulator_run.specs.Run.{fresh_at}
use Rattle.demodulator_run.specs.OldLayout.{view_before, window_before, filtered_before, stored_before, fresh_before, record_fit_before, fit_for_sample_before, fit_for_reply_before, Alike}
use Rattle.demodulator_run.proofs.Sixteen.{taps_size}

-- ---- fitness
module _ (p : ℕ) (m n : SoftDemodulator) (a : Alike p m n) where
  cursors_fit_lem : (k : SoftDemodulator) → k.filter_cursor < tap_count p → k.rx_cursor < ring_places p → cursors_fit p k ≡ true
  cursors_fit_lem k w r = rw (lt-ltb k.filter_cursor (tap_count p) w, lt-ltb k.rx_cursor (ring_places p) r)

  pub record_alike : record_fit_lem p m ≡ record_fit_before p n
  unfolding record_fit_lem record_fit_before
  record_alike = rw (a.rate, a.halves, cursors_fit_lem m a.cursor a.ring_cursor, cursors_fit_lem n a.cursor_before a.ring_cursor_before, a.control)

  -- the values that a call would read
  some : 0 < p
  some = let l = a.ring_cursor in omega arith

  sample_places : (w : Option Waiting) → all_below (places_read_lem w) (λ (j : ℕ). in_range (back p m (p * j + (p - 1)))) ≡ all_below (places_read_lem w) (λ (j : ℕ). in_range (back p n (p * j + (p - 1))))
  sample_places w =
      all_same (places_read_lem w) _ _ (λ j l. ap in_range (a.ring (p * j + (p - 1))
      (let u = (places_between w).1 in let v : p * suc j ≤ p * 191 = mul-le-mul_left p (omega arith) in omega (arith, some))))

  pub sample_alike : fit_for_sample_lem p m ≡ fit_for_sample_before p n
  unfolding fit_for_sample_lem fit_for_sample_before
  sample_alike = rw (record_alike, a.control) (ap (λ (b : Bool). record_fit_before p n && b) (sample_places n.control.wait))

  pub reply_alike : fit_for_reply_lem p m ≡ fit_for_reply_before p n
  unfolding fit_for_reply_lem fit_for_reply_before
  reply_alike =
      rw (
        record_alike,
        all_same 8 (λ (j : ℕ). in_range (back p m (p * j))) (λ (j : ℕ). in_range (back p n (p * j)))
            (λ j l. ap in_range (a.ring (p * j) (let v : p * suc j ≤ p * 8 = mul-le-mul_left p l in omega (arith, some)))),
      )

  -- ---- another control
  pub control_alike : (c d : Control) → c ≡ d → Alike p (with_control c m) (with_control d n)
  control_alike c d e = record {
    rate = a.rate;
    places = a.places;
    halves = a.halves;
    cursor = a.cursor;
    places_before = a.places_before;
    cursor_before = a.cursor_before;
    window = a.window;
    ring_places_lem = a.ring_places_lem;
    ring_cursor = a.ring_cursor;
    ring_places_before = a.ring_places_before;
    ring_cursor_before = a.ring_cursor_before;
    ring = a.ring;
    control = e;
  }

-- ---- a ring, by age, into which the same is stored
module _ (N : ℕ) (v w : List Float) (c d : ℕ) (x y : Float) (c-inside : c < N) (d-inside : d < N) (v-long : N ≤ length v) (w-long : N ≤ length w) (same : x ≡ y)
    (agree : (j : ℕ) → j < N → read N nan v c ((N - 1) - j) ≡ read N nan w d ((N - 1) - j)) where
  pushed_alike : (j : ℕ) → j < N → read N nan (set v c x) ((c + 1) % N) ((N - 1) - j) ≡ read N nan (set w d y) ((d + 1) % N) ((N - 1) - j)
  pushed_alike zero l = newest_back N nan v c x c-inside v-long ∙ same ∙ sym (newest_back N nan w d y d-inside w-long)
  pushed_alike (suc j) l =
      ap (λ (k : ℕ). read N nan (set v c x) ((c + 1) % N) ((N - 1) - k)) {x = suc j} {y = j + 1} (omega arith)
      ∙ older_back N nan v c x c-inside j (omega arith)
      ∙ agree j (omega arith)
      ∙ sym (ap (λ (k : ℕ). read N nan (set w d y) ((d + 1) % N) ((N - 1) - k)) {x = suc j} {y = j + 1} (omega arith) ∙ older_back N nan w d y d-inside j (omega arith))

-- ---- a stored sample
module _ (R : Rate) (F : Facts R) (m n : SoftDemodulator) (a : Alike R.p m n) (x : ℤ) where
  abbrev N : ℕ
  N = tap_count R.p

  -- what the two sums are of
  summed_alike : (i : ℕ) → i < tap_count R.p
      → get_or (window_after R.p m x) (m.filter_cursor + 1 + i) (pos 0) ≡ read (tap_count R.p) (pos 0) (window_before n x) ((n.filter_cursor + 1) % tap_count R.p) i
  summed_alike i l = elim (eq-or-lt_of_le l) [
    | inl e ↦
        summed_newest R m x a.cursor a.places i (omega arith)
        ∙ sym (newest N (pos 0) n.filter_win n.filter_cursor x a.cursor_before a.places_before i (omega arith))
    | inr k ↦
        summed_older R m x a.cursor i (omega arith)
        ∙ a.window (i + 1) (omega arith)
        ∙ sym (older N (pos 0) n.filter_win n.filter_cursor x a.cursor_before i (omega arith))
  ]

  filtered_alike : filtered_after R m x ≡ filtered_before R n x
  filtered_alike = dot_same R.taps _ _ (λ i l. ap (of_int binary32) (summed_alike i (lt_of_lt_of_le l (taps_size R F))))

  ring_alike : (j : ℕ) → j < ring_places R.p → back R.p (stored R m x) j ≡ back R.p (stored_before R n x) j
  unfolding stored stored_before
  ring_alike =
      pushed_alike (ring_places R.p) m.rx_win n.rx_win m.rx_cursor n.rx_cursor (filtered_after R m x) (filtered_before R n x)
      a.ring_cursor a.ring_cursor_before a.ring_places_lem a.ring_places_before filtered_alike a.ring

  window_alike : (i : ℕ) → i < tap_count R.p → view (stored R m x) i ≡ view_before R.p (stored_before R n x) i
  unfolding stored_before
  window_alike i l = stored_view R m x a.cursor a.places a.halves i l ∙ summed_alike i l

  pub stored_alike : Alike R.p (stored R m x) (stored_before R n x)
  unfolding stored stored_before
  stored_alike = record {
    rate = a.rate;
    places = stored_long R m x a.cursor a.places;
    halves = stored_halves R m x a.cursor a.places a.halves;
    cursor = mod-lt (m.filter_cursor + 1) (omega arith);
    places_before = rw (length-set n.filter_win n.filter_cursor x) a.places_before;
    cursor_before = mod-lt (n.filter_cursor + 1) (omega arith);
    window = window_alike;
    ring_places_lem = rw (length-set m.rx_win m.rx_cursor (filtered_after R m x)) a.ring_places_lem;
    ring_cursor = mod-lt (m.rx_cursor + 1) (omega (arith, a.ring_cursor));
    ring_places_before = rw (length-set n.rx_win n.rx_cursor (filtered_before R n x)) a.ring_places_before;
    ring_cursor_before = mod-lt (n.rx_cursor + 1) (omega (arith, a.ring_cursor));
    ring = ring_alike;
    control = a.control;
  }

-- ---- windows and rings that hold one value throughout, at any cursors
module _ (R : Rate) (F : Facts R) where
  pub even_alike : (rate : ℕ) (x : ℤ) (y : Float) (w v r s : ℕ) (c : Control) → w < tap_count R.p → v < tap_count R.p → r < ring_places R.p → s < ring_places R.p
      → Alike R.p (assembled rate (replicate 162 x) w (replicate 1920 y) r c) (assembled rate (replicate 81 x) v (replicate 1920 y) s c)
  even_alike rate x y w v r s c w-inside v-inside r-inside s-inside =
      let few = F.few in
      let round : (k : ℕ) → k % ring_places R.p < 1920 = λ k. lt_of_lt_of_le (mod-lt k (omega arith)) (omega arith) in
      record {
        rate = refl;
        places = omega (arith, length-replicate 162 x);
        halves = doubled_agree R.p (replicate 162 x) (λ i l. get_or-replicate 162 i x (pos 0) (omega arith) ∙ sym (get_or-replicate 162 (i + tap_count R.p) x (pos 0) (omega arith)));
        cursor = w-inside;
        places_before = omega (arith, length-replicate 81 x);
        cursor_before = v-inside;
        window = λ i l.
            get_or-replicate 162 (w + i) x (pos 0) (omega arith)
            ∙ sym (get_or-replicate 81 ((v + i) % tap_count R.p) x (pos 0) (lt_of_lt_of_le (mod-lt (v + i) (omega arith)) (omega arith)));
        ring_places_lem = omega (arith, length-replicate 1920 y);
        ring_cursor = r-inside;
        ring_places_before = omega (arith, length-replicate 1920 y);
        ring_cursor_before = s-inside;
        ring = λ j l.
            get_or-replicate 1920 ((r + (ring_places R.p - 1 - j)) % ring_places R.p) y nan (round (r + (ring_places R.p - 1 - j)))
            ∙ sym (get_or-replicate 1920 ((s + (ring_places R.p - 1 - j)) % ring_places R.p) y nan (round (s + (ring_places R.p - 1 - j))));
        control = refl;
      }

  pub fresh_alike : Alike R.p (fresh_at R) (fresh_before (per_second R.p))
  unfolding fresh fresh_before
  fresh_alike = let some = F.some in even_alike (per_second R.p) (pos 0) (of_bits binary32 0) 0 0 0 0 fresh_control (omega arith) (omega arith) (omega arith) (omega arith)

-- Many samples stored: the window's samples and the ring's values are then those of the stretch and what was before it. At every rate. Assumes nothing.
use mathlib.Core.Path.{◌≡◌, refl, ap, ◌∙◌}
use mathlib.Core.Logic.{inl, inr}
use mathlib.Core.Bool.{true}
use mathlib.Core.List.{List}
use Prim.Native.Nat.{ℕ, zero, suc, ◌+◌, ◌-◌, ◌*◌, ◌≤◌, ◌<◌}
use native.Mathlib.Nat.{mod-lt, mul-le-mul_left, eq-or-lt_of_le}
use native.Mathlib.Omega.{arith}
use borrow.Author.Tests.{lt-ltb, le-ltb}
use lib.IntN.{ℤ, pos}
use lib.ListN.{length, get_or}
use lib.Ieee.{Float, binary32, of_int}
use Rattle.numbers.proofs.Tests.{lt_or_le}
use Rattle.shaping.specs.Rate.{Rate, tap_count, window_places, ring_places}
use Rattle.shaping.proofs.RateFacts.{Facts}
use Rattle.shaping.proofs.Dot.{dot_same}
use Rattle.search.specs.declared.Control.{Control}
use Rattle.demodulator.specs.declared.SoftDemodulator.{SoftDemodulator}
use Rattle.demodulator.specs.Spans.{eight}
use Rattle.demodulator.specs.Record.{with_control, back, view, window_after, filtered_after, stored}
use Rattle.demodulator.specs.Fit.{halves_agree_lem}
use Rattle.demodulator.specs.Stretch.{stored_to, heard_at, filtered_at, row_at, Begins}
use Rattle.demodulator.proofs.Readers.{stored_newest, stored_older}
use Rattle.demodulator.proofs.Halves.{stored_ring, summed_older, summed_newest, stored_long, stored_halves, stored_view}

-- ---- what a record stands on
pub record Standing (p : ℕ) (m : SoftDemodulator) : Type 0 where
  pub window_cursor : m.filter_cursor < tap_count p
  pub ring_cursor : m.rx_cursor < ring_places p
  pub window_long : window_places p ≤ length m.filter_win
  pub ring_long : ring_places p ≤ length m.rx_win
  pub halves : halves_agree_lem p m.filter_win ≡ true

module _ (R : Rate) (F : Facts R) where
  abbrev p : ℕ
  p = R.p

  stored_cursors : (m : SoftDemodulator) (x : ℤ) → ((stored R m x).filter_cursor < tap_count R.p) × ((stored R m x).rx_cursor < ring_places R.p)
  unfolding stored
  stored_cursors m x = (mod-lt (m.filter_cursor + 1) {m = tap_count p} (omega arith), mod-lt (m.rx_cursor + 1) {m = ring_places p} (omega (arith, F.some)))

  stored_standing : (m : SoftDemodulator) (x : ℤ) → Standing R.p m → Standing R.p (stored R m x)
  stored_standing m x s = record {
    window_cursor = (stored_cursors m x).0;
    ring_cursor = (stored_cursors m x).1;
    window_long = stored_long R m x s.window_cursor s.window_long;
    ring_long = omega (arith, stored_ring R m x, s.ring_long);
    halves = stored_halves R m x s.window_cursor s.window_long s.halves;
  }

  module _ (m : SoftDemodulator) (s : Standing R.p m) (xs : List ℤ) where
    abbrev at : ℕ → SoftDemodulator
    at n = stored_to R m xs n

    abbrev x : ℕ → ℤ
    x n = get_or xs n (pos 0)

    abbrev row : ℕ → Float
    row = row_at R m xs

    pub standing : (n : ℕ) → Standing R.p (stored_to R m xs n)
    unfolding stored_to
    standing zero = s
    standing (suc n) = stored_standing (at n) (x n) (standing n)

    -- ---- the window
    heard_new : (n i : ℕ) → i + 1 ≡ tap_count p → x n ≡ heard_at p m xs (n + i + 1)
    heard_new n i e =
        let past : tap_count p ≤ n + i + 1 = omega arith in
        let place : n + i + 1 - tap_count p ≡ n = omega arith in
        rw (le-ltb (n + i + 1) (tap_count p) past, place)

    -- what the next filtered value is the sum of, from the samples by their age
    next_heard : (n : ℕ) → ((i : ℕ) → i < tap_count p → view (at n) i ≡ heard_at p m xs (n + i)) → (i : ℕ) → i < tap_count p
        → get_or (window_after p (at n) (x n)) ((at n).filter_cursor + 1 + i) (pos 0) ≡ heard_at p m xs (n + i + 1)
    next_heard n before i l = elim (eq-or-lt_of_le l) [
      | inl e ↦ summed_newest R (at n) (x n) (standing n).window_cursor (standing n).window_long i (omega arith) ∙ heard_new n i (omega arith)
      | inr k ↦
          summed_older R (at n) (x n) (standing n).window_cursor i (omega arith)
          ∙ before (i + 1) (omega arith)
          ∙ ap (λ (q : ℕ). heard_at p m xs q) {x = n + (i + 1)} {y = n + i + 1} (omega arith)
    ]

    view_at : (n i : ℕ) → i < tap_count p → view (stored_to R m xs n) i ≡ heard_at p m xs (n + i)
    unfolding stored_to
    view_at zero i l =
        let none : 0 + i ≡ i = omega arith in
        rw (none, lt-ltb i (tap_count p) l)
    view_at (suc n) i l =
        stored_view R (at n) (x n) (standing n).window_cursor (standing n).window_long (standing n).halves i l
        ∙ next_heard n (view_at n) i l
        ∙ ap (λ (q : ℕ). heard_at p m xs q) {x = n + i + 1} {y = suc n + i} (omega arith)

    -- the sample's filtered value, from the samples one after the other
    pub filtered_at_lem : (n : ℕ) → filtered_after R (stored_to R m xs n) (get_or xs n (pos 0)) ≡ filtered_at R m xs n
    unfolding filtered_at
    filtered_at_lem n = dot_same R.taps _ _ (λ i l. ap (of_int binary32) (next_heard n (view_at n) i (rw F.number at l)))

    -- ---- the ring
    next_back : (n : ℕ) → ((j : ℕ) → j < 7 * p → back p (at n) j ≡ row (n + (7 * p - 1 - j))) → (j : ℕ) → j ≤ 7 * p → back p (at (suc n)) j ≡ row (n + (7 * p - j))
    unfolding stored_to
    next_back n before zero l =
        let past : 7 * p ≤ n + (7 * p - 0) = omega arith in
        let place : n + (7 * p - 0) - 7 * p ≡ n = omega arith in
        stored_newest R (at n) (x n) (standing n).ring_cursor (standing n).ring_long ∙ filtered_at_lem n ∙ rw (le-ltb (n + (7 * p - 0)) (7 * p) past, place)
    next_back n before (suc j) l =
        let step : suc j ≡ j + 1 = omega arith in
        ap (back p (stored R (at n) (x n))) step
        ∙ stored_older R (at n) (x n) (standing n).ring_cursor j (omega arith)
        ∙ before j (omega arith)
        ∙ ap row {x = n + (7 * p - 1 - j)} {y = n + (7 * p - suc j)} (omega arith)

    back_at : (n j : ℕ) → j < 7 * p → back p (at n) j ≡ row (n + (7 * p - 1 - j))
    back_at zero j l = first
      where
        first : back p (at 0) j ≡ row (0 + (7 * p - 1 - j))
        first =
            unfold stored_to in
            let below : 0 + (7 * p - 1 - j) < 7 * p = omega arith in
            let place : 7 * p - 1 - (0 + (7 * p - 1 - j)) ≡ j = omega arith in
            rw (lt-ltb (0 + (7 * p - 1 - j)) (7 * p) below, place)
    back_at (suc n) j l = next_back n (back_at n) j (omega arith) ∙ ap row {x = n + (7 * p - j)} {y = suc n + (7 * p - 1 - j)} (omega arith)

    -- "the eight values F(k-70), F(k-60), .. F(k)" of sample k, in the row
    pub eight_row : (k i : ℕ) → i < 8 → eight R.p (back R.p (stored_to R m xs (suc k))) i ≡ row_at R m xs (k + R.p * i)
    eight_row k i l =
        let seven : (7 - i) + i ≡ 7 = omega arith in
        let whole : p * ((7 - i) + i) ≡ p * 7 = ap (λ (q : ℕ). p * q) seven in
        let near : p * (7 - i) ≤ 7 * p = omega (arith, whole) in
        let place : k + (7 * p - p * (7 - i)) ≡ k + p * i = omega (arith, whole) in
        next_back k (back_at k) (p * (7 - i)) near ∙ ap row place

    -- the seven that its fitness asks of, before it is stored
    pub seven_row : (k j : ℕ) → j < 7 → back R.p (stored_to R m xs k) (R.p * j + (R.p - 1)) ≡ row_at R m xs (k + (6 * R.p - R.p * j))
    seven_row k j l =
        let most : p * suc j ≤ p * 7 = mul-le-mul_left p l in
        let near : p * j + (p - 1) < 7 * p = omega (arith, most, F.some) in
        let place : k + (7 * p - 1 - (p * j + (p - 1))) ≡ k + (6 * p - p * j) = omega (arith, most, F.some) in
        back_at k (p * j + (p - 1)) near ∙ ap row place

-- ---- the rate and the control, which no store changes
pub rate_kept : (R : Rate) (m : SoftDemodulator) (xs : List ℤ) (n : ℕ) → (stored_to R m xs n).rate ≡ m.rate
unfolding stored_to stored
rate_kept R m xs zero = refl
rate_kept R m xs (suc n) = rate_kept R m xs n

pub control_apart : (R : Rate) (c : Control) (m : SoftDemodulator) (xs : List ℤ) (n : ℕ) → stored_to R (with_control c m) xs n ≡ with_control c (stored_to R m xs n)
unfolding stored_to stored
control_apart R c m xs zero = refl
control_apart R c m xs (suc n) = ap (λ (q : SoftDemodulator). stored R q (get_or xs n (pos 0))) (control_apart R c m xs n)

-- ---- samples that are the first of others: what these are stored to, and their row
module _ (R : Rate) (m : SoftDemodulator) (xs all : List ℤ) (begins : Begins xs all) where
  pub stored_same : (k : ℕ) → k ≤ length xs → stored_to R m xs k ≡ stored_to R m all k
  unfolding stored_to
  stored_same zero l = refl
  stored_same (suc k) l = rw (stored_same k (omega arith), begins.same k l)

  heard_same : (i : ℕ) → i < length xs + tap_count R.p → heard_at R.p m xs i ≡ heard_at R.p m all i
  heard_same i l = elim (lt_or_le i (tap_count R.p)) [
    | inl h ↦ rw (lt-ltb i (tap_count R.p) h)
    | inr h ↦ rw (le-ltb i (tap_count R.p) h) (begins.same (i - tap_count R.p) (omega arith))
  ]

  filtered_same : length R.taps ≡ tap_count R.p → (k : ℕ) → k < length xs → filtered_at R m xs k ≡ filtered_at R m all k
  unfolding filtered_at
  filtered_same number k l = dot_same R.taps _ _ (λ i h. ap (of_int binary32) (heard_same (k + i + 1) (omega (arith, number))))

  pub row_same : length R.taps ≡ tap_count R.p → (i : ℕ) → i < length xs + 7 * R.p → row_at R m xs i ≡ row_at R m all i
  row_same number i l = elim (lt_or_le i (7 * R.p)) [
    | inl h ↦ rw (lt-ltb i (7 * R.p) h)
    | inr h ↦ rw (le-ltb i (7 * R.p) h) (filtered_same number (i - 7 * R.p) (omega arith))
  ]

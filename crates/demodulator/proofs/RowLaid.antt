-- The filtered values of a stretch in a row: what its functions write is the row of the rules. Assumes nothing.
use mathlib.Core.Path.{◌≡◌, sym, ap, ◌∙◌}
use mathlib.Core.Logic.{inl, inr}
use mathlib.Core.Bool.{true}
use mathlib.Core.List.{List, ◌++◌}
use Prim.Native.Nat.{ℕ, ◌+◌, ◌*◌, ◌-◌, ◌≤◌, ◌<◌}
use native.Mathlib.Omega.{arith}
use borrow.Author.Tests.{lt-ltb, le-ltb}
use lib.IntN.{ℤ, pos}
use lib.ListN.{length, get_or, take, drop, replicate, length-replicate, get_or-replicate, get_or-append}
use lib.Seq.{get_or-take, get_or-drop, get_or-append-add, take_at, ext_get_or}
use lib.Ieee.{Float, nan, binary32, of_bits, of_int}
use Rattle.numbers.specs.Firsts.{firsts, written}
use Rattle.numbers.proofs.Tests.{lt_or_le}
use Rattle.numbers.proofs.Firsts.{length_firsts, firsts_at, firsts_same, written_at, written_more}
use Rattle.shaping.specs.Rate.{Known, rate_at, tap_count}
use Rattle.shaping.specs.Sum.{sample_in}
use Rattle.shaping.proofs.RateFacts.{facts}
use Rattle.shaping.proofs.Dot.{dot_same}
use Rattle.bulk.specs.Sums.{sum_from, sums_of, is_still_lem}
use Rattle.bulk.proofs.Still.{still_sum}
use Rattle.search.specs.declared.Control.{Control}
use Rattle.demodulator.specs.declared.step.Places.{Places}
use Rattle.demodulator.specs.Record.{ring_back}
use Rattle.demodulator.specs.Stretch.{filtered_at, row_at, heard_float, Filters, joined, Rows}

-- ---- the samples side by side
module _ (p : ℕ) (window : List ℤ) (cursor : ℕ) (xs part : List ℤ) (w : ℕ) (is : part ≡ take w (drop (cursor + 1) window)) (wide : 8 * p ≤ w) where
  abbrev heard : ℕ → Float
  heard = heard_float p window cursor xs

  window_part : (i : ℕ) → i < 8 * p → sample_in part i ≡ heard i
  window_part i l =
      let there : cursor + 1 + i ≡ cursor + (i + 1) = omega arith in
      let below : i + 1 < tap_count p = omega arith in
      rw (lt-ltb (i + 1) (tap_count p) below)
      (ap (λ (q : List ℤ). sample_in q i) is
      ∙ ap (of_int binary32) (get_or-take w (drop (cursor + 1) window) i (pos 0) (omega arith) ∙ get_or-drop (cursor + 1) window i (pos 0) ∙ ap (λ (k : ℕ). get_or window k (pos 0)) there))

  stretch_part : (j : ℕ) → sample_in xs j ≡ heard (8 * p + j)
  stretch_part j =
      let past : tap_count p ≤ 8 * p + j + 1 = omega arith in
      let place : 8 * p + j + 1 - tap_count p ≡ j = omega arith in
      rw (le-ltb (8 * p + j + 1) (tap_count p) past, place)

  pub laid_side_by_side : (room room₁ tail : List Float) → length part ≡ 8 * p → room₁ ≡ written (sample_in part) (length part) room → tail ≡ written (sample_in xs) (length xs) (drop (8 * p) room₁)
      → take (8 * p) room₁ ++ tail ≡ written (heard_float p window cursor xs) (8 * p + length xs) room
  laid_side_by_side room room₁ tail width first rest =
      let begun : room₁ ≡ written heard (8 * p) room = first ∙ rw width (ap (λ (q : List Float). q ++ drop (8 * p) room) (firsts_same (sample_in part) heard (8 * p) window_part)) in
      rw (rest, begun) (written_more heard (sample_in xs) (8 * p) (length xs) room (λ j l. stretch_part j))

-- ---- a block's sums
module _ (p : ℕ) (known : Known p) where
  abbrev table : List Float
  table = (rate_at p).taps

  number : length table ≡ tap_count p
  number = (facts p known).number

  pub still_sums : (row : List Float) → length row ≡ 8 * p + 48 → is_still_lem row ≡ true → replicate 48 (of_bits binary32 0) ≡ firsts (sum_from (rate_at p).taps row) 48
  still_sums row long still =
      let zeros : List Float = replicate 48 (of_bits binary32 0) in
      let n = length-replicate 48 (of_bits binary32 0) in
      let all = length_firsts (sum_from table row) 48 in
      ext_get_or nan zeros _ (omega (arith, n, all)) (λ k h.
      let l : k < 48 = omega (arith, n) in
      get_or-replicate 48 k (of_bits binary32 0) nan l ∙ sym (firsts_at (sum_from table row) 48 k nan l ∙ still_sum table row (facts p known).finite still k (omega (arith, number, long))))

  pub whole_sums : (row : List Float) → length row ≡ 8 * p + 48 → sums_of (rate_at p).taps row ≡ firsts (sum_from (rate_at p).taps row) 48
  unfolding sums_of
  whole_sums row long =
      let wide : length table ≤ length row - 47 = omega (arith, number, long) in
      rw (le-ltb (length row - 47) (length table) wide)

  -- the sums of a part are those of the whole from there on
  pub part_sums : (straight : List Float) (k w : ℕ) → 8 * p + 48 ≤ w → (j : ℕ) → j < 48 → sum_from (rate_at p).taps (take w (drop k straight)) j ≡ sum_from (rate_at p).taps straight (k + j)
  part_sums straight k w wide j l =
      dot_same table _ _ (λ i h.
      let below : j + i < w = omega (arith, number) in
      let there : k + (j + i) ≡ k + j + i = omega arith in
      get_or-take w (drop k straight) (j + i) nan below ∙ get_or-drop k straight (j + i) nan ∙ ap (λ (q : ℕ). get_or straight q nan) there)

  -- ---- the row
  module _ (window : List ℤ) (ring : List Float) (at : Places) (xs : List ℤ) (straight straight₁ row row₁ tail : List Float) where
    abbrev recent : ℕ → Float
    recent i = ring_back p ring at.rx_cursor (7 * p - 1 - i)

    abbrev before : List Float
    before = firsts recent (7 * p)

    module _ (laid : straight₁ ≡ written (heard_float p window at.filter_cursor xs) (8 * p + length xs) straight) (begun : row₁ ≡ written recent (7 * p) row)
        (filters : Filters p straight₁ (length xs) (drop (7 * p) row₁) tail) where
      head_is : take (7 * p) row₁ ≡ before
      head_is = ap (take (7 * p)) begun ∙ take_at before (drop (7 * p) row) (7 * p) (length_firsts recent (7 * p))

      -- one of the stretch's own
      own : (rate : ℕ) (c : Control) (k : ℕ) → k < length xs → sum_from table straight₁ k ≡ filtered_at (rate_at p) (joined window ring at rate c) xs k
      unfolding filtered_at
      own rate c k l =
          dot_same table _ _ (λ i h.
          let inside : k + i < 8 * p + length xs = omega (arith, number) in
          ap (λ (q : List Float). get_or q (k + i) nan) laid ∙ written_at (heard_float p window at.filter_cursor xs) (8 * p + length xs) straight (k + i) nan inside)

      value : (rate : ℕ) (c : Control) (i : ℕ) → i < length xs + 7 * p → get_or (take (7 * p) row₁ ++ tail) i nan ≡ row_at (rate_at p) (joined window ring at rate c) xs i
      value rate c i l = elim (lt_or_le i (7 * p)) [
        | inl h ↦
            let n = length_firsts recent (7 * p) in
            rw (lt-ltb i (7 * p) h, head_is) (get_or-append before tail nan i (omega (arith, n)) ∙ firsts_at recent (7 * p) i nan h)
        | inr h ↦
            let n = length_firsts recent (7 * p) in
            let place : i ≡ length before + (i - 7 * p) = omega (arith, n) in
            let inside : i - 7 * p < filters.n = omega (arith, filters.least) in
            rw (le-ltb i (7 * p) h, head_is)
            (ap (λ (q : ℕ). get_or (before ++ tail) q nan) place
            ∙ get_or-append-add before tail (i - 7 * p) nan
            ∙ ap (λ (q : List Float). get_or q (i - 7 * p) nan) filters.writes
            ∙ written_at (sum_from table straight₁) filters.n (drop (7 * p) row₁) (i - 7 * p) nan inside
            ∙ own rate c (i - 7 * p) (omega arith))
      ]

      pub rows_laid : (row' : List Float) → row' ≡ take (7 * p) row₁ ++ tail → length row' ≡ 742 → Rows p window ring at xs row'
      rows_laid row' e n = record { long = n; values = λ rate c i l. rw e (value rate c i l) }

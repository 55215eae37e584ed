-- Samples that are quiet, by a walk over their filtered values in a row, are fed one by one with the same outcome. Assumes nothing.
use Rattle.std.specs.Prelude.{Option, Some, None, Ok}
use Rattle.search.specs.declared.Waiting.{Waiting}
use mathlib.Core.Path.{◌≡◌, refl, sym, ap, subst, ◌∙◌}
use mathlib.Core.Bool.{true, false}
use mathlib.Core.List.{List}
use Prim.Native.Nat.{ℕ, zero, suc, ◌+◌, ◌-◌, ◌*◌, ◌≤◌, ◌<◌}
use native.Mathlib.Omega.{arith}
use native.Mathlib.Nat.{mul-le-mul_left}
use native.Mathlib.Numerals.{add-one}
use borrow.Author.Tests.{lt-ltb, ne_eqb, leb-false}
use lib.Dec.{T}
use lib.IntN.{ℤ, pos}
use lib.ListN.{length, get_or, drop}
use lib.Ieee.{Float, nan}
use lib.Ieee.Bits.{is_true}
use Rattle.numbers.specs.Below.{all_below}
use Rattle.numbers.proofs.Below.{below_all}
use Rattle.shaping.specs.Rate.{Rate, rate_fit, tap_count, ring_places}
use Rattle.shaping.proofs.RateFacts.{Facts}
use Rattle.decode.specs.Correlator.{in_range}
use Rattle.search.specs.declared.Control.{Control}
use Rattle.search.specs.Turn.{quiet, control_of, sampled}
use Rattle.search.specs.Fit.{control_fit_lem}
use Rattle.search.proofs.AgeInPass.{by_test}
use Rattle.search.proofs.SampleByWait.{sampled_free, sampled_rest, sampled_same}
use Rattle.look.specs.Marks.{eight_from}
use Rattle.quiet.specs.declared.Walked.{Walked}
use Rattle.quiet.specs.Walk.{is_due_lem, goes_on_lem as walksOn, walked_to, walked_from}
use Rattle.quiet.proofs.GoesOn.{Goes, goes}
use Rattle.demodulator.specs.declared.SoftDemodulator.{SoftDemodulator}
use Rattle.demodulator.specs.Spans.{eight}
use Rattle.demodulator.specs.Record.{back, with_control, stored}
use Rattle.demodulator.specs.Fit.{places_read_lem, record_fit_lem, fit_for_sample_lem}
use Rattle.demodulator.specs.Calls.{DemodAt}
use Rattle.demodulator.specs.Stretch.{stored_to, row_at}
use Rattle.demodulator.proofs.CallCases.{sample_taken}
use Rattle.demodulator.proofs.FeedSteps.{drop_at, rest_from, fed_on}
use Rattle.demodulator.proofs.StoredMany.{Standing, standing, eight_row, seven_row, rate_kept}

-- ---- a sample at which the walk goes on
-- it is quiet
quiet_turn : (p : ℕ) (u : ℕ → Float) (w : Option Waiting) (c : Control) → c.wait ≡ w → is_due_lem w ≡ false → sampled p u c ≡ quiet (control_of (sampled p u c))
quiet_turn p u None c e h = rw (sampled_free p u c e)
quiet_turn p u (Some w) c e h = rw (sampled_rest p u c w e (leb-false w.left 1 h))

-- and reads the seven places of a search only
seven : (w : Option Waiting) → is_due_lem w ≡ false → places_read_lem w ≡ 7
seven None h = refl
seven (Some w) h = let more = leb-false w.left 1 h in rw (ne_eqb w.left 1 (λ e. omega arith))

module _ (R : Rate) (F : Facts R) (m : SoftDemodulator) (rate : rate_fit m.rate ≡ true) (s : Standing R.p m) (xs : List ℤ) (room : List Float) (enough : 192 ≤ length room) (row : List Float) (count : ℕ)
    (holds_row : (i : ℕ) → i < count + 7 * R.p → get_or row i nan ≡ row_at R m xs i) (range : (i : ℕ) → i < count + 7 * R.p → T (in_range (get_or row i nan))) where
  abbrev p : ℕ
  p = R.p

  abbrev at : ℕ → SoftDemodulator
  at k = stored_to R m xs k

  -- the control after the next sample
  abbrev next : ℕ → Control → Control
  next k c = control_of (sampled p (eight_from p row k) c)

  fit_at : (k : ℕ) (c : Control) → k < count → Goes p c → fit_for_sample_lem p (with_control c (at k)) ≡ true
  unfolding fit_for_sample_lem record_fit_lem
  fit_at k c l g =
      let d = standing R F m s xs k in
      let places : all_below 7 (λ (j : ℕ). in_range (back p (at k) (p * j + (p - 1)))) ≡ true =
      is_true _ (below_all 7 (λ (j : ℕ). in_range (back p (at k) (p * j + (p - 1)))) λ j h.
      subst (λ (y : Float). T (in_range y)) (holds_row (k + (6 * p - p * j)) (omega arith) ∙ sym (seven_row R F m s xs k j h)) (range (k + (6 * p - p * j)) (omega arith)))
      in
      rw (rate_kept R m xs k, rate, d.halves, lt-ltb _ (tap_count p) d.window_cursor, lt-ltb _ (ring_places p) d.ring_cursor, is_true (control_fit_lem p c) g.fit, seven c.wait g.far, places)

  stored_with : (k : ℕ) (c : Control) (y : ℤ) → stored R (with_control c (at k)) y ≡ with_control c (stored R (at k) y)
  unfolding stored
  stored_with k c y = refl

  back_with : (k : ℕ) (c : Control) (y : ℤ) (j : ℕ) → back p (stored R (with_control c (at k)) y) j ≡ back p (stored R (at k) y) j
  unfolding stored
  back_with k c y j = refl

  -- one sample
  one : (k : ℕ) (c : Control) → k < count → Goes p c → (d : Control) → d ≡ next k c
      → DemodAt R (with_control c (at k)) (get_or xs k (pos 0)) room (record { answer = (Ok None); demodulator = with_control d (at (suc k)) }) room
  unfolding stored_to
  one k c l g d e =
      let y = get_or xs k (pos 0) in
      let here = with_control c (at k) in
      let agree : (i : ℕ) → i < 8 → eight p (back p (stored R here y)) i ≡ eight_from p row k i = λ i h.
      let most : p * suc i ≤ p * 8 = mul-le-mul_left p h in
      let inside : k + p * i < count + 7 * p = omega (arith, most, F.some) in
      back_with k c y (p * (7 - i)) ∙ eight_row R F m s xs k i h ∙ sym (holds_row (k + p * i) inside) in
      let turn : quiet d ≡ sampled p (eight p (back p (stored R here y))) c =
      ap quiet e ∙ sym (quiet_turn p (eight_from p row k) c.wait c refl g.far) ∙ sym (sampled_same p _ (eight_from p row k) agree c)
      in
      let done = sample_taken R here y room (fit_at k c l g) g.no_reply enough g.count (quiet d) turn in
      record { answers = rw done; leaves = rw (done, stored_with k c y); writes = rw done }

  -- after `fed` samples and k of the stretch: what is left is fed to what the walk leaves
  abbrev Told : ℕ → ℕ → Control → Walked → Type 0
  Told fed k c w = rest_from R (fed + k) (with_control c (at k)) (drop k xs) room ≡ rest_from R (fed + w.fed) (with_control w.control (at w.fed)) (drop w.fed xs) room

  next_told : (fed k : ℕ) (c d : Control) (w : Walked) → k < count → count ≤ length xs → Goes p c → d ≡ next k c → Told fed (k + 1) d w → Told fed k c w
  next_told fed k c d w l h g e rest =
      let one_more : fed + k + 1 ≡ fed + (k + 1) = omega arith in
      rw (drop_at k xs (pos 0) (omega arith))
      (fed_on R _ _ _ _ _ _ _ (Ok None) (one k c l g d e) refl
      ∙ ap (λ (q : ℕ). rest_from R q (with_control d (at (suc k))) (drop (suc k) xs) room) one_more
      ∙ subst (λ (q : ℕ). rest_from R (fed + (k + 1)) (with_control d (at q)) (drop q xs) room ≡ rest_from R (fed + w.fed) (with_control w.control (at w.fed)) (drop w.fed xs) room) (add-one k) rest)

  pub walk_feeds : (fed k n : ℕ) (c : Control) → k + n ≤ count → count ≤ length xs → Told fed k c (walked_from R.p (eight_from R.p row) k n c)
  unfolding walked_from
  walk_feeds fed k zero c l h = refl
  walk_feeds fed k (suc n) c l h =
      by_test (Told fed k c) (walksOn p c) (walked_from p (eight_from p row) (k + 1) n (next k c)) (walked_to k c)
      (λ e. next_told fed k c (next k c) _ (omega arith) h (goes p c e) refl (walk_feeds fed (k + 1) n (next k c) (omega arith) h))
      (λ e. refl)

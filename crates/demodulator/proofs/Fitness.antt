-- What a fit record is known to be, clause by clause. Assumes nothing.
use Rattle.std.specs.Prelude.{Option, Some, None}
use mathlib.Core.List.{List}
use mathlib.Core.Path.{◌≡◌, sym, ◌∙◌}
use mathlib.Core.Bool.{Bool, true, false, not, ◌&&◌, cond}
use Prim.Native.Nat.{ℕ, ◌+◌, ◌-◌, ◌*◌, ◌≤◌, ◌<◌}
use native.Mathlib.Nat.{lt_of_lt_of_le}
use lib.Dec.{T, ltb, eqb, ltb→lt, lit≤}
use borrow.Author.Tests.{not-true, not-false}
use lib.IntN.{ℤ}
use lib.Ieee.{Float}
use lib.Ieee.Bits.{is_true}
use Rattle.numbers.specs.Below.{all_below}
use Rattle.numbers.proofs.Tests.{holds}
use Rattle.numbers.proofs.Below.{all_below_lem}
use Rattle.shaping.specs.Rate.{rate_fit, tap_count, ring_places}
use Rattle.decode.specs.Correlator.{in_range}
use Rattle.search.specs.declared.Waiting.{Waiting}
use Rattle.search.specs.declared.Control.{Control}
use Rattle.search.specs.Fit.{control_fit_lem}
use Rattle.search.proofs.Fitness.{both, ControlFacts, control_facts}
use Rattle.demodulator.specs.declared.SoftDemodulator.{SoftDemodulator}
use Rattle.demodulator.specs.Record.{back, assembled}
use Rattle.demodulator.specs.Fit.{halves_agree_lem, cursors_fit, rings_fit, record_fit_lem, places_read_lem, fit_for_sample_lem, fit_for_reply_lem}
use Rattle.demodulator.specs.Parts.{TestsRecord}

-- ---- the facts
pub record RecordFacts (p : ℕ) (m : SoftDemodulator) : Type 0 where
  pub rate : rate_fit m.rate ≡ true
  pub halves : halves_agree_lem p m.filter_win ≡ true
  pub window_cursor : m.filter_cursor < tap_count p
  pub ring_cursor : m.rx_cursor < ring_places p
  pub control : ControlFacts p m.control

pub record_facts : (p : ℕ) (m : SoftDemodulator) → record_fit_lem p m ≡ true → RecordFacts p m
unfolding record_fit_lem
record_facts p m e =
    let all = both (rate_fit m.rate && rings_fit p m) (control_fit_lem p m.control) (holds e) in
    let own = both (rate_fit m.rate) (rings_fit p m) all.0 in
    let rings = both (halves_agree_lem p m.filter_win) (cursors_fit p m) own.1 in
    let cursors = both (ltb m.filter_cursor (tap_count p)) (ltb m.rx_cursor (ring_places p)) rings.1 in
    record {
      rate = is_true (rate_fit m.rate) own.0;
      halves = is_true (halves_agree_lem p m.filter_win) rings.0;
      window_cursor = ltb→lt m.filter_cursor (tap_count p) cursors.0;
      ring_cursor = ltb→lt m.rx_cursor (ring_places p) cursors.1;
      control = control_facts p m.control all.1;
    }

-- ---- what code knows once it has tested a record by its parts
module _ (p : ℕ) (halves : Bool) (windowCursor ringCursor : ℕ) (c : Control) (r : Bool) (tests : TestsRecord p halves windowCursor ringCursor c r) where
  module _ (rate : ℕ) (window : List ℤ) (ring : List Float) (known : rate_fit rate ≡ true) (same : halves ≡ halves_agree_lem p window) where
    tested : record_fit_lem p (assembled rate window windowCursor ring ringCursor c) ≡ r
    unfolding record_fit_lem
    tested = rw (known, sym same) (sym tests)

    pub tested_unfit : not r ≡ true → record_fit_lem p (assembled rate window windowCursor ring ringCursor c) ≡ false
    tested_unfit e = tested ∙ not-true r e

    pub tested_fit : not r ≡ false → record_fit_lem p (assembled rate window windowCursor ring ringCursor c) ≡ true
    tested_fit e = tested ∙ not-false r e

  pub tested_inside : not r ≡ false → ringCursor < ring_places p
  tested_inside e =
      let all = both (halves && (ltb windowCursor (tap_count p) && ltb ringCursor (ring_places p))) (control_fit_lem p c) (holds (sym tests ∙ not-false r e)) in
      let rings = both halves (ltb windowCursor (tap_count p) && ltb ringCursor (ring_places p)) all.0 in
      ltb→lt ringCursor (ring_places p) (both (ltb windowCursor (tap_count p)) (ltb ringCursor (ring_places p)) rings.1).1

-- ---- the values that a call would read
either : (b : Bool) → (7 ≤ cond b 191 7) × (cond b 191 7 ≤ 191)
either true = (lit≤ tt, lit≤ tt)
either false = (lit≤ tt, lit≤ tt)

pub places_between : (w : Option Waiting) → (7 ≤ places_read_lem w) × (places_read_lem w ≤ 191)
places_between None = (lit≤ tt, lit≤ tt)
places_between (Some w) = either (eqb w.left 1)

-- the tests that a sample's value and a reply's must pass, by the value's place in their order
abbrev sample_test : ℕ → SoftDemodulator → ℕ → Bool
sample_test p m j = in_range (back p m (p * j + (p - 1)))

abbrev reply_test : ℕ → SoftDemodulator → ℕ → Bool
reply_test p m j = in_range (back p m (p * j))

module _ (p : ℕ) (m : SoftDemodulator) (fit : fit_for_sample_lem p m ≡ true) where
  sample_both : T (record_fit_lem p m) × T (all_below (places_read_lem m.control.wait) (sample_test p m))
  unfolding fit_for_sample_lem
  sample_both = both (record_fit_lem p m) (all_below (places_read_lem m.control.wait) (sample_test p m)) (holds fit)

  pub sample_record : record_fit_lem p m ≡ true
  sample_record = is_true (record_fit_lem p m) sample_both.0

  pub sample_places : (j : ℕ) → j < places_read_lem m.control.wait → T (in_range (back p m (p * j + (p - 1))))
  sample_places = all_below_lem (places_read_lem m.control.wait) (sample_test p m) sample_both.1

  -- the seven of a search
  pub sample_seven : (j : ℕ) → j < 7 → T (in_range (back p m (p * j + (p - 1))))
  sample_seven j l = sample_places j (lt_of_lt_of_le l (places_between m.control.wait).0)

  -- and all the others of a window that is due
  pub sample_window : (w : Waiting) → m.control.wait ≡ Some w → w.left ≡ 1 → (j : ℕ) → j < 191 → T (in_range (back p m (p * j + (p - 1))))
  sample_window w due one j l =
      let n : places_read_lem m.control.wait ≡ 191 = rw (due, one) in
      sample_places j (rw n l)

module _ (p : ℕ) (m : SoftDemodulator) (fit : fit_for_reply_lem p m ≡ true) where
  reply_both : T (record_fit_lem p m) × T (all_below 8 (reply_test p m))
  unfolding fit_for_reply_lem
  reply_both = both (record_fit_lem p m) (all_below 8 (reply_test p m)) (holds fit)

  pub reply_record : record_fit_lem p m ≡ true
  reply_record = is_true (record_fit_lem p m) reply_both.0

  pub reply_eight : (j : ℕ) → j < 8 → T (in_range (back p m (p * j)))
  reply_eight = all_below_lem 8 (reply_test p m) reply_both.1

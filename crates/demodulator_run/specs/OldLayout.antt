-- The layout before document 02 f): each sample is kept once, in a window of 81 places that is read round from its cursor. Its store, its fitness and its calls, as they were;
-- the record is the same but for the window. Assumes nothing.
use Rattle.std.specs.Prelude.{◌≡◌, Bool, true, not, ◌&&◌, cond, List, [], ℕ, ◌+◌, ◌-◌, ◌*◌, ◌%◌, ◌^◌, ◌≤◌, ◌<◌, eqb, ltb, ℤ, pos, length, get_or, set, replicate, Float}
use Rattle.std.specs.Float.{binary32}
use Rattle.std.specs.Float.Ieee.{of_int}
use Rattle.numbers.specs.Below.{all_below}
use Rattle.machine.specs.Runs.{Machine}
use Rattle.shaping.specs.Rate.{Rate, rate_fit, at48, tap_count, window_places, ring_places}
use Rattle.shaping.specs.Sum.{dot}
use Rattle.protocol.specs.Refusals.{bare}
use Rattle.decode.specs.Correlator.{in_range}
use Rattle.search.specs.declared.Reply.{Reply}
use Rattle.search.specs.Turn.{sampled}
use Rattle.search.specs.Fit.{control_fit_lem}
use Rattle.demodulator.specs.declared.SoftDemodulator.{SoftDemodulator}
use Rattle.demodulator.specs.Spans.{eight}
use Rattle.demodulator.specs.Record.{fresh, assembled, back, view}
use Rattle.demodulator.specs.Fit.{unfit_number, halves_agree_lem, cursors_fit, places_read_lem}
use Rattle.demodulator.specs.Calls.{Paper, refusal, nothing, done, carrier, Left, refused, finished, reply_leaves, timer_held}
use Rattle.demodulator.specs.Feed.{Stretch, fed}
use Rattle.demodulator_run.specs.Rules.{Single, sample, reply, query}
use Rattle.demodulator_run.specs.Run.{said_by}
use Rattle.demodulator_run.specs.Calls.{Call, one, stretch, Told, told_one, told_stretch}

-- ---- the window, and "store"
abbrev pub view_before : ℕ → SoftDemodulator → ℕ → ℤ
view_before p m i = get_or m.filter_win ((m.filter_cursor + i) % tap_count p) (pos 0)

abbrev pub window_before : SoftDemodulator → ℤ → List ℤ
window_before m x = set m.filter_win m.filter_cursor x

abbrev pub filtered_before : Rate → SoftDemodulator → ℤ → Float
filtered_before R m x =
    dot R.taps (λ (i : ℕ). of_int binary32 (get_or (window_before m x) (((m.filter_cursor + 1) % tap_count R.p + i) % tap_count R.p) (pos 0)))

unfoldable pub stored_before : Rate → SoftDemodulator → ℤ → SoftDemodulator
stored_before R m x = record {
  rate = m.rate;
  filter_win = window_before m x;
  filter_cursor = (m.filter_cursor + 1) % tap_count R.p;
  rx_win = set m.rx_win m.rx_cursor (filtered_before R m x);
  rx_cursor = (m.rx_cursor + 1) % ring_places R.p;
  control = m.control;
}

unfoldable pub fresh_before : ℕ → SoftDemodulator
fresh_before rate = assembled rate (replicate (tap_count at48.p) (pos 0)) 0 (fresh rate).rx_win 0 (fresh rate).control

-- ---- fitness
unfoldable pub record_fit_before : ℕ → SoftDemodulator → Bool
record_fit_before p m = (rate_fit m.rate && cursors_fit p m) && control_fit_lem p m.control

unfoldable pub fit_for_sample_before : ℕ → SoftDemodulator → Bool
fit_for_sample_before p m = record_fit_before p m && all_below (places_read_lem m.control.wait) (λ (j : ℕ). in_range (back p m (p * j + (p - 1))))

unfoldable pub fit_for_reply_before : ℕ → SoftDemodulator → Bool
fit_for_reply_before p m = record_fit_before p m && all_below 8 (λ (j : ℕ). in_range (back p m (p * j)))

-- ---- the calls
unfoldable pub demodulated_before : Rate → SoftDemodulator → ℤ → List Float → Left
demodulated_before R m x room =
    cond (not (fit_for_sample_before R.p m)) (refused (unfit_number m) m room)
    (cond m.control.owed (refused 2 m room)
    (cond (ltb (length room) 192) (refused 4 m room)
    (cond (eqb m.control.sample (2 ^ 63)) (refused 5 m room)
    (finished R.p (stored_before R m x) room (sampled R.p (eight R.p (back R.p (stored_before R m x))) m.control)))))

unfoldable pub answered_before : ℕ → SoftDemodulator → Reply → List Float → Left
answered_before p m r room =
    cond (not (fit_for_reply_before p m)) (refused (unfit_number m) m room)
    (cond (not m.control.owed) (refused 3 m room)
    (record { answer = done; demodulator = reply_leaves p m r; room = room }))

unfoldable pub detected_before : ℕ → SoftDemodulator → Paper
detected_before p m = cond (not (record_fit_before p m)) (refusal (bare (unfit_number m))) (carrier (timer_held m.control.dcd))

unfoldable pub left_before : Rate → SoftDemodulator → Single → Left
left_before R m (sample x room) = demodulated_before R m x room
left_before R m (reply r) = answered_before R.p m r []
left_before R m query = record { answer = detected_before R.p m; demodulator = m; room = [] }

abbrev pub fed_before : Rate → SoftDemodulator → List ℤ → List Float → Stretch SoftDemodulator
fed_before R =
    fed SoftDemodulator (λ m x room. (demodulated_before R m x room).answer) (λ m x room. (demodulated_before R m x room).demodulator) (λ m x room. (demodulated_before R m x room).room)
    (λ m. cond (record_fit_before R.p m) nothing (refusal (bare (unfit_number m))))

-- ---- the machine
unfoldable pub next_before : Rate → SoftDemodulator → Call → SoftDemodulator
next_before R m (one c) = (left_before R m c).demodulator
next_before R m (stretch xs room) = (fed_before R m xs room).state

unfoldable pub told_before : Rate → SoftDemodulator → Call → Told
told_before R m (one c) = told_one (said_by (left_before R m c))
told_before R m (stretch xs room) = told_stretch (fed_before R m xs room)

abbrev pub receiver_before : Rate → Machine SoftDemodulator Call Told
receiver_before R = record { next = next_before R; says = told_before R }

-- ---- a record of each layout that hold the same: by their age the same samples and filtered values, and the same control; fit or not
pub record Alike (p : ℕ) (m n : SoftDemodulator) : Type 0 where
  pub rate : m.rate ≡ n.rate
  pub places : window_places p ≤ length m.filter_win
  pub halves : halves_agree_lem p m.filter_win ≡ true
  pub cursor : m.filter_cursor < tap_count p
  pub places_before : tap_count p ≤ length n.filter_win
  pub cursor_before : n.filter_cursor < tap_count p
  pub window : (i : ℕ) → i < tap_count p → view m i ≡ view_before p n i
  pub ring_places_lem : ring_places p ≤ length m.rx_win
  pub ring_cursor : m.rx_cursor < ring_places p
  pub ring_places_before : ring_places p ≤ length n.rx_win
  pub ring_cursor_before : n.rx_cursor < ring_places p
  pub ring : (j : ℕ) → j < ring_places p → back p m j ≡ back p n j
  pub control : m.control ≡ n.control

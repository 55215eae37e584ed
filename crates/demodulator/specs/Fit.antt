-- Document 01's 'Unfit receiver', the phrases of the window and of the ring, around those of the control: a record is fit where its rate is one of the two and no phrase applies. Over p, the samples in a symbol. Assumes nothing.
use Rattle.search.specs.declared.Waiting.{Waiting}
use Rattle.std.specs.Prelude.{Bool, false, ◌&&◌, cond, List, ℕ, ◌+◌, ◌-◌, ◌*◌, eqb, ltb, ℤ, pos, negsuc, get_or, Option, Some, None}
use Rattle.numbers.specs.Below.{all_below}
use Rattle.shaping.specs.Rate.{rate_fit, tap_count, ring_places}
use Rattle.decode.specs.Correlator.{in_range}
use Rattle.search.specs.Fit.{control_fit_lem}
use Rattle.demodulator.specs.declared.SoftDemodulator.{SoftDemodulator}
use Rattle.demodulator.specs.Record.{back}

-- two samples are one number
abbrev pub same_sample : ℤ → ℤ → Bool
same_sample (pos a) (pos b) = eqb a b
same_sample (pos a) (negsuc b) = false
same_sample (negsuc a) (pos b) = false
same_sample (negsuc a) (negsuc b) = eqb a b

-- document 02 f): "a record whose two halves differ is unfit"; the halves lie 81 places apart, or 41
unfoldable pub halves_agree_lem : ℕ → List ℤ → Bool
halves_agree_lem p window = all_below (tap_count p) (λ (i : ℕ). same_sample (get_or window i (pos 0)) (get_or window (i + tap_count p) (pos 0)))

-- "a cursor at or past its ring's length (81, 1,920)"; document 02 k): "cursors below 41 and 960"
abbrev pub cursors_fit : ℕ → SoftDemodulator → Bool
cursors_fit p m = ltb m.filter_cursor (tap_count p) && ltb m.rx_cursor (ring_places p)

-- the window and the cursors
abbrev pub rings_fit : ℕ → SoftDemodulator → Bool
rings_fit p m = halves_agree_lem p m.filter_win && cursors_fit p m

-- all but the filtered values: "a call that gives neither tests no filtered value"
unfoldable pub record_fit_lem : ℕ → SoftDemodulator → Bool
record_fit_lem p m = rate_fit m.rate && rings_fit p m && control_fit_lem p m.control

-- what a record that is not fit is refused with. 15: "any rate but the two, checked first"; 1: "record unfit"
abbrev pub unfit_number : SoftDemodulator → ℕ
unfit_number m = cond (rate_fit m.rate) 1 15

-- "in one of the seven ring places this sample's search would read besides the new value or, where the wait is 1, in one of the other places the window reads":
-- once the sample is stored these are the values p, 2p, .. samples ago, so before it those p - 1, 2p - 1, .. ago
abbrev pub places_read_lem : Option Waiting → ℕ
places_read_lem None = 7
places_read_lem (Some w) = cond (eqb w.left 1) 191 7

unfoldable pub fit_for_sample_lem : ℕ → SoftDemodulator → Bool
fit_for_sample_lem p m = record_fit_lem p m && all_below (places_read_lem m.control.wait) (λ (j : ℕ). in_range (back p m (p * j + (p - 1))))

-- "on a reply: in one of the eight places"
unfoldable pub fit_for_reply_lem : ℕ → SoftDemodulator → Bool
fit_for_reply_lem p m = record_fit_lem p m && all_below 8 (λ (j : ℕ). in_range (back p m (p * j)))

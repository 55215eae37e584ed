-- Document 01's 'Unfit sender', phrase by phrase in its order: a record is fit where its rate is one of the two and no phrase applies. Over p, the samples in a symbol, where a limit is a multiple of it. Assumes nothing.
use Rattle.modulator.specs.declared.SampleCount.{SampleCount}
use Rattle.std.specs.Prelude.{Bool, true, cond, ◌&&◌, ℕ, ltb, leb, get_or, Float, Option, Some, None}
use Rattle.std.specs.Float.{nan, binary32}
use Rattle.std.specs.Float.Ieee.{of_bits, le}
use Rattle.numbers.specs.Below.{all_below}
use Rattle.shaping.specs.Rate.{rate_fit, tap_count, store_places_lem, padding_limit_lem, end_limit_lem}
use Rattle.modulator.specs.declared.Progress.{Progress}
use Rattle.modulator.specs.declared.OutputBuffer.{OutputBuffer}
use Rattle.modulator.specs.declared.SoftModulator.{SoftModulator}

-- "cursor past 80"; document 02 k): "cursors below 41"
abbrev pub cursor_fit : ℕ → SoftModulator → Bool
cursor_fit p m = ltb m.filter_cursor (tap_count p)

-- "a window value not within ±35,461"
unfoldable pub pulse_fit : Float → Bool
pulse_fit value = le (of_bits binary32 0xc70a_8500) value && le value (of_bits binary32 0x470a_8500)

unfoldable pub window_fit : ℕ → SoftModulator → Bool
window_fit p m = all_below (tap_count p) (λ (i : ℕ). pulse_fit (get_or m.filter_win i nan))

-- "length above 4,000; read place above length; padding above 122,400"; document 02 k): "length 2,000, padding 61,200"
abbrev pub progress_fit_lem : ℕ → Progress → Bool
progress_fit_lem p s = leb s.next_len (store_places_lem p) && leb s.next_read s.next_len && leb s.tx_delay_padding.0 (padding_limit_lem p)

-- "fill, capacity or latency above 16,777,216; capacity below fill"
abbrev pub count_fit_lem : ℕ → Bool
count_fit_lem n = leb n 16777216

abbrev pub buffer_fit_lem : OutputBuffer → Bool
buffer_fit_lem b = count_fit_lem b.samples_in_buf.0 && count_fit_lem b.buf_capacity.0 && count_fit_lem b.output_latency.0 && leb b.samples_in_buf.0 b.buf_capacity.0

-- "a reported end above" its limit, which request a raises
abbrev pub report_fit_lem : ℕ → Option SampleCount → Bool
report_fit_lem p None = true
report_fit_lem p (Some end) = leb end.0 (end_limit_lem p)

unfoldable pub record_fit_lem : ℕ → SoftModulator → Bool
record_fit_lem p m = rate_fit m.rate && cursor_fit p m && window_fit p m && progress_fit_lem p m.progress && buffer_fit_lem m.buffer && report_fit_lem p m.pending.report_tx_end

-- what a record that is not fit is refused with. 15: "any rate but the two, checked first"; 1: "record unfit"
abbrev pub unfit_number : SoftModulator → ℕ
unfit_number m = cond (rate_fit m.rate) 1 15

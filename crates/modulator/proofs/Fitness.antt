-- What a fit record is known to be, clause by clause, over p, the samples in a symbol. Assumes nothing.
use Rattle.std.specs.Prelude.{Option, Some}
use mathlib.Core.Path.{◌≡◌, refl, subst}
use mathlib.Core.Bool.{Bool, true, ◌&&◌}
use mathlib.Core.List.{List}
use Prim.Native.Nat.{ℕ, ◌≤◌, ◌<◌}
use lib.Dec.{T, leb, leb→le, ltb→lt}
use lib.ListN.{length, get_or, take}
use lib.Seq.{get_or-take, length-take-le}
use lib.Ieee.{Float, nan, binary32, of_bits, neg, le}
use lib.Ieee.Bits.{is_true}
use lib.Ieee.Fits.{and_l, and_r}
use Rattle.numbers.specs.Below.{all_below}
use Rattle.numbers.specs.Within.{Within}
use Rattle.numbers.proofs.Tests.{holds}
use Rattle.numbers.proofs.Below.{all_below_lem, all_same}
use Rattle.numbers.proofs.Bounds.{between}
use Rattle.shaping.specs.Rate.{rate_fit, tap_count, store_places_lem, padding_limit_lem, end_limit_lem}
use Rattle.modulator.specs.declared.SampleCount.{SampleCount}
use Rattle.modulator.specs.declared.Progress.{Progress}
use Rattle.modulator.specs.declared.OutputBuffer.{OutputBuffer}
use Rattle.modulator.specs.declared.SoftModulator.{SoftModulator}
use Rattle.modulator.specs.Frame.{within}
use Rattle.modulator.specs.Fit.{cursor_fit, pulse_fit, window_fit, progress_fit_lem, count_fit_lem, buffer_fit_lem, report_fit_lem, record_fit_lem}

-- ---- the facts
pub record ProgressFacts (p : ℕ) (s : Progress) : Type 0 where
  pub len : s.next_len ≤ store_places_lem p
  pub read : s.next_read ≤ s.next_len
  pub padding : s.tx_delay_padding.0 ≤ padding_limit_lem p

pub record BufferFacts (b : OutputBuffer) : Type 0 where
  pub fill : b.samples_in_buf.0 ≤ 16777216
  pub capacity : b.buf_capacity.0 ≤ 16777216
  pub latency : b.output_latency.0 ≤ 16777216
  pub room : b.samples_in_buf.0 ≤ b.buf_capacity.0

pub record RecordFacts (p : ℕ) (m : SoftModulator) : Type 0 where
  pub rate : rate_fit m.rate ≡ true
  pub cursor : m.filter_cursor < tap_count p
  pub window : (i : ℕ) → i < tap_count p → Within (get_or m.filter_win i nan) 35461
  pub progress : ProgressFacts p m.progress
  pub buffer : BufferFacts m.buffer
  pub report : (end : SampleCount) → m.pending.report_tx_end ≡ Some end → end.0 ≤ end_limit_lem p

-- ---- each clause
pub pulse_within : (value : Float) → T (pulse_fit value) → Within value 35461
unfolding pulse_fit of_bits
pulse_within value t =
    let low = of_bits binary32 0xc70a_8500 in
    let high = of_bits binary32 0x470a_8500 in
    between low value high 35461 (refl, refl) (refl, refl) (and_l (le low value) (le value high) t) (and_r (le low value) (le value high) t)

progress_facts : (p : ℕ) (s : Progress) → T (progress_fit_lem p s) → ProgressFacts p s
progress_facts p s t =
    let len = leb s.next_len (store_places_lem p) in
    let read = leb s.next_read s.next_len in
    let padding = leb s.tx_delay_padding.0 (padding_limit_lem p) in
    let two = and_l (len && read) padding t in
    record {
      len = leb→le s.next_len (store_places_lem p) (and_l len read two);
      read = leb→le s.next_read s.next_len (and_r len read two);
      padding = leb→le s.tx_delay_padding.0 (padding_limit_lem p) (and_r (len && read) padding t);
    }

pub count_fact : (n : ℕ) → T (count_fit_lem n) → n ≤ 16777216
count_fact n t = leb→le n 16777216 t

buffer_facts : (b : OutputBuffer) → T (buffer_fit_lem b) → BufferFacts b
buffer_facts b t =
    let fill = count_fit_lem b.samples_in_buf.0 in
    let capacity = count_fit_lem b.buf_capacity.0 in
    let latency = count_fit_lem b.output_latency.0 in
    let room = leb b.samples_in_buf.0 b.buf_capacity.0 in
    let three = and_l (fill && capacity && latency) room t in
    let two = and_l (fill && capacity) latency three in
    record {
      fill = count_fact b.samples_in_buf.0 (and_l fill capacity two);
      capacity = count_fact b.buf_capacity.0 (and_r fill capacity two);
      latency = count_fact b.output_latency.0 (and_r (fill && capacity) latency three);
      room = leb→le b.samples_in_buf.0 b.buf_capacity.0 (and_r (fill && capacity && latency) room t);
    }

report_fact : (p : ℕ) (end : SampleCount) → T (report_fit_lem p (Some end)) → end.0 ≤ end_limit_lem p
report_fact p end t = leb→le end.0 (end_limit_lem p) t

-- window values from -35,461 to 35,461 are those within 35461.0
pub window_within : (window : List Float) (n : ℕ) → n ≤ length window → all_below (length (take n window)) (λ (i : ℕ). within (of_bits binary32 0x470a_8500) (get_or (take n window) i nan)) ≡ all_below n (λ (i : ℕ). pulse_fit (get_or window i nan))
unfolding pulse_fit of_bits neg
window_within window n long = rw (length-take-le n window long) (all_same n _ _ λ i l. rw (get_or-take n window i nan l))

-- ---- all of them
-- the rate and the five groups of phrases
pub record Groups (p : ℕ) (m : SoftModulator) : Type 0 where
  pub rate : T (rate_fit m.rate)
  pub cursor : T (cursor_fit p m)
  pub window : T (window_fit p m)
  pub progress : T (progress_fit_lem p m.progress)
  pub buffer : T (buffer_fit_lem m.buffer)
  pub report : T (report_fit_lem p m.pending.report_tx_end)

pub groups : (p : ℕ) (m : SoftModulator) → record_fit_lem p m ≡ true → Groups p m
unfolding record_fit_lem
groups p m e =
    let rate = rate_fit m.rate in
    let cursor = cursor_fit p m in
    let window = window_fit p m in
    let progress = progress_fit_lem p m.progress in
    let buffer = buffer_fit_lem m.buffer in
    let report = report_fit_lem p m.pending.report_tx_end in
    let t = holds e in
    let five = and_l (rate && cursor && window && progress && buffer) report t in
    let four = and_l (rate && cursor && window && progress) buffer five in
    let three = and_l (rate && cursor && window) progress four in
    let two = and_l (rate && cursor) window three in
    record {
      rate = and_l rate cursor two;
      cursor = and_r rate cursor two;
      window = and_r (rate && cursor) window three;
      progress = and_r (rate && cursor && window) progress four;
      buffer = and_r (rate && cursor && window && progress) buffer five;
      report = and_r (rate && cursor && window && progress && buffer) report t;
    }

pub grouped : (p : ℕ) (m : SoftModulator) → Groups p m → record_fit_lem p m ≡ true
unfolding record_fit_lem
grouped p m g = rw (is_true (rate_fit m.rate) g.rate, is_true (cursor_fit p m) g.cursor, is_true (window_fit p m) g.window, is_true (progress_fit_lem p m.progress) g.progress, is_true (buffer_fit_lem m.buffer) g.buffer) (is_true (report_fit_lem p m.pending.report_tx_end) g.report)

pub record_facts : (p : ℕ) (m : SoftModulator) → record_fit_lem p m ≡ true → RecordFacts p m
unfolding window_fit
record_facts p m e =
    let value : ℕ → Bool = λ (i : ℕ). pulse_fit (get_or m.filter_win i nan) in
    let g = groups p m e in
    record {
      rate = is_true (rate_fit m.rate) g.rate;
      cursor = ltb→lt m.filter_cursor (tap_count p) g.cursor;
      window = λ i l. pulse_within (get_or m.filter_win i nan) (all_below_lem (tap_count p) value g.window i l);
      progress = progress_facts p m.progress g.progress;
      buffer = buffer_facts m.buffer g.buffer;
      report = λ end r. report_fact p end (subst (λ (o : Option SampleCount). T (report_fit_lem p o)) r g.report);
    }

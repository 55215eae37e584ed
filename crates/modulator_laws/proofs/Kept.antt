-- A fit record stays fit over each call, at every rate. Assumes nothing.
use mathlib.Core.Path.{◌≡◌}
use mathlib.Core.Bool.{true}
use mathlib.Core.List.{List}
use Prim.Native.Nat.{ℕ, ◌*◌, ◌≤◌, ◌<◌}
use native.Mathlib.Nat.{mul-le-mul_left}
use native.Mathlib.Omega.{arith}
use borrow.Author.Tests.{le-leb}
use lib.Dec.{T, lt→ltb}
use lib.IntN.{ℤ}
use lib.ListN.{get_or}
use lib.Ieee.{Float, nan}
use Rattle.numbers.proofs.Below.{all_below_lem, below_all}
use Rattle.shaping.specs.Rate.{Rate, tap_count, store_places_lem, padding_limit_lem}
use Rattle.pulse.specs.Pulse.{pulses}
use Rattle.pulse.proofs.Stream.{cursor_stays}
use Rattle.modulator.specs.declared.Progress.{Progress}
use Rattle.modulator.specs.declared.Pending.{Pending}
use Rattle.modulator.specs.declared.OutputBuffer.{OutputBuffer}
use Rattle.modulator.specs.declared.ModulatorFrame.{ModulatorFrame}
use Rattle.modulator.specs.declared.SoftModulator.{SoftModulator}
use Rattle.modulator.specs.Frame.{Symbols}
use Rattle.modulator.specs.Record.{line_of, control_of, with_progress, with_pending, framed}
use Rattle.modulator.specs.Fit.{pulse_fit, window_fit, progress_fit_lem, buffer_fit_lem, report_fit_lem, record_fit_lem}
use Rattle.modulator.specs.Outcome.{Outcome, only, told, sends, frame_outcome, update_outcome, action_outcome}
use Rattle.modulator.specs.Calls.{settled, drained, provided, read, updated, ran}
use Rattle.modulator.proofs.Fitness.{ProgressFacts, Groups, groups, grouped, record_facts}
use Rattle.modulator.proofs.Cases.{read_fit}
use Rattle.modulator_laws.proofs.Sizes.{pulses_size, within_pulse, window_stays, Small}
use Rattle.modulator_laws.proofs.OutcomeLimits.{Byte, Few, frame_few, update_few, action_few, Sound, frame_sound, update_sound, action_sound}

pub progress_fit : (p : ℕ) (s : Progress) → ProgressFacts p s → T (progress_fit_lem p s)
progress_fit p s f = rw (le-leb s.next_len (store_places_lem p) f.len, le-leb s.next_read s.next_len f.read, le-leb s.tx_delay_padding.0 (padding_limit_lem p) f.padding) tt

module _ (R : Rate) (m : SoftModulator) (fit : record_fit_lem R.p m ≡ true) where
  abbrev g : Groups R.p m
  g = groups R.p m fit

  far : ProgressFacts R.p m.progress
  far = (record_facts R.p m fit).progress

  -- ---- with one of the groups changed
  with_progress_lem : (s : Progress) → ProgressFacts R.p s → record_fit_lem R.p (with_progress s m) ≡ true
  unfolding window_fit
  with_progress_lem s f = grouped R.p (with_progress s m) (record { rate = g.rate; cursor = g.cursor; window = g.window; progress = progress_fit R.p s f; buffer = g.buffer; report = g.report })

  with_pending_lem : (pending : Pending) (b : OutputBuffer) → T (report_fit_lem R.p pending.report_tx_end) → T (buffer_fit_lem b) → record_fit_lem R.p (with_pending pending b m) ≡ true
  unfolding window_fit
  with_pending_lem pending b r f = grouped R.p (with_pending pending b m) (record { rate = g.rate; cursor = g.cursor; window = g.window; progress = g.progress; buffer = f; report = r })

  -- ---- with a frame
  framed_fit : (s : Symbols) (padding : ℕ) (pending : Pending) → s.count ≤ 400 → Small s → padding ≤ padding_limit_lem R.p
      → T (report_fit_lem R.p pending.report_tx_end) → record_fit_lem R.p (framed R s padding pending m) ≡ true
  unfolding framed window_fit
  framed_fit s padding pending few small least report =
      let p = R.p in
      let e : ℕ → Float = pulses p s.symbol in
      let n : ℕ = p * s.count in
      let fits : (t : ℕ) → t < n → T (pulse_fit (e t)) = λ t l. within_pulse (e t) (pulses_size p s.symbol s.count small t l) in
      let inside = cursor_stays p e n (line_of m) (record_facts p m fit).cursor in
      let stored : n ≤ p * 400 = mul-le-mul_left p few in
      grouped p (framed R s padding pending m) (record {
        rate = g.rate;
        cursor = lt→ltb _ (tap_count p) inside;
        window = below_all (tap_count p) _ λ i l. window_stays p e n (line_of m) i fits (all_below_lem (tap_count p) (λ (j : ℕ). pulse_fit (get_or m.filter_win j nan)) g.window i l);
        progress = progress_fit p _ (record { len = omega arith; read = omega arith; padding = least });
        buffer = g.buffer;
        report = report;
      })

  -- ---- what comes of a call
  settled_fit : (o : Outcome) → Few o → Sound R.p o → record_fit_lem R.p (settled R m o).modulator ≡ true
  unfolding settled Few Sound
  settled_fit (only answer) few sound = fit
  settled_fit (told answer pending buffer) few sound = with_pending_lem pending buffer sound.0 sound.1
  settled_fit (sends frame padding pending) few sound = framed_fit frame padding pending few sound.0 sound.1 sound.2

  pub frame_keeps : (frame : ModulatorFrame) (symbols : List Float) → Byte frame → record_fit_lem R.p (provided R m frame symbols).modulator ≡ true
  unfolding provided
  frame_keeps frame symbols h =
      rw fit (settled_fit (frame_outcome R.p frame symbols (control_of m)) (frame_few R.p (control_of m) frame symbols) (frame_sound R.p (control_of m) far g.buffer g.report frame symbols h))

  pub drained_fit : (room : List ℤ) → record_fit_lem R.p (drained m room).modulator ≡ true
  unfolding drained
  drained_fit room =
      let f = far in
      with_progress_lem _ (record { len = f.len; read = omega arith; padding = omega arith })

  pub read_keeps : (room : List ℤ) → record_fit_lem R.p (read R m room).modulator ≡ true
  read_keeps room = rw (read_fit R m room fit) (drained_fit room)

  pub update_keeps : (fill capacity latency : ℕ) → record_fit_lem R.p (updated R m fill capacity latency).modulator ≡ true
  unfolding updated
  update_keeps fill capacity latency =
      rw fit (settled_fit (update_outcome R.p fill capacity latency (control_of m)) (update_few R.p (control_of m) fill capacity latency) (update_sound R.p (control_of m) far g.buffer g.report fill capacity latency))

  pub run_keeps : record_fit_lem R.p (ran R m).modulator ≡ true
  unfolding ran
  run_keeps = rw fit (settled_fit (action_outcome (control_of m)) (action_few R.p (control_of m)) (action_sound R.p (control_of m) far g.buffer g.report))

-- What comes of a call keeps within the limits of a fit record, where the control that it comes of does. Over p, the samples in a symbol. Assumes nothing.
use Rattle.std.specs.Prelude.{Option, Some}
use Rattle.modulator.specs.declared.SampleCount.{SampleCount}
use mathlib.Core.Path.{◌≡◌, refl, sym, subst}
use mathlib.Core.Bool.{Bool, true, false, cond}
use mathlib.Core.List.{List}
use Prim.Native.Nat.{ℕ, ◌*◌, ◌≤◌, ◌<◌}
use native.Mathlib.Nat.{mul-le-mul_left}
use native.Mathlib.Omega.{arith}
use borrow.Author.Tests.{le-leb}
use lib.Dec.{T, lit≤}
use lib.Ieee.{Float}
use Rattle.shaping.specs.Rate.{delay_step_lem, padding_limit_lem, end_limit_lem}
use Rattle.given_symbols.specs.declared.Traffic.{Traffic}
use Rattle.modulator.specs.declared.DelaySteps.{DelaySteps}
use Rattle.modulator.specs.declared.Progress.{Progress}
use Rattle.modulator.specs.declared.OutputBuffer.{OutputBuffer}
use Rattle.modulator.specs.declared.ModulatorFrame.{ModulatorFrame}
use Rattle.modulator.specs.declared.ModulatorFrame.TheVariants.{Nothing as NoFrame, Preamble, Symbols as GivenSymbols, EndOfTransmission}
use Rattle.modulator.specs.Frame.{padding_of}
use Rattle.modulator.specs.Control.{Control, buffer_of, end_after_lem}
use Rattle.modulator.specs.Fit.{buffer_fit_lem, report_fit_lem}
use Rattle.modulator.specs.Outcome.{Outcome, only, told, sends, frame_outcome, update_outcome, action_outcome}
use Rattle.modulator.proofs.Fitness.{ProgressFacts, BufferFacts}
use Rattle.modulator.proofs.Cases.{counts_taken}
use Rattle.modulator_laws.proofs.EachCase.{each_given, each_update, each_action}
use Rattle.modulator_laws.proofs.Sizes.{Small, preamble_small, ending_small, given_small}

-- a TxDelay is a byte
abbrev pub Byte : ModulatorFrame → Type 0
Byte frame = (traffic : Traffic) (steps : DelaySteps) → frame ≡ Preamble traffic steps → steps.0 < 256

-- ---- the store takes every frame
unfoldable pub Few : Outcome → Type 0
Few (only answer) = Unit {0}
Few (told answer pending buffer) = Unit {0}
Few (sends frame padding pending) = frame.count ≤ 400

module _ (p : ℕ) (s : Control) where
  pub frame_few : (frame : ModulatorFrame) (symbols : List Float) → Few (frame_outcome p frame symbols s)
  unfolding Few frame_outcome
  frame_few NoFrame symbols = tt
  frame_few (Preamble traffic steps) symbols = lit≤ tt
  frame_few (GivenSymbols traffic) symbols = each_given s Few traffic symbols (λ _. tt) (λ _ _ _. tt) (λ _ _ _. tt) (λ _ _ _. lit≤ tt)
  frame_few EndOfTransmission symbols = lit≤ tt

  pub update_few : (fill capacity latency : ℕ) → Few (update_outcome p fill capacity latency s)
  unfolding Few
  update_few fill capacity latency = each_update s Few p fill capacity latency (λ _. tt) (λ _ _. tt) (λ _ _. tt)

  pub action_few : Few (action_outcome s)
  unfolding Few
  action_few = each_action s Few (record { told_end = λ _ _. tt; unread = λ _ _. tt; idles = λ _ _ _. tt; wishes = λ _ _ _. tt; rests = λ _ _ _. tt })

-- ---- symbols, padding, report and buffer are within their limits
unfoldable pub Sound : ℕ → Outcome → Type 0
Sound p (only answer) = Unit {0}
Sound p (told answer pending buffer) = T (report_fit_lem p pending.report_tx_end) × T (buffer_fit_lem buffer)
Sound p (sends frame padding pending) = Small frame × (padding ≤ padding_limit_lem p) × T (report_fit_lem p pending.report_tx_end)

-- 255 steps at most
padding_short : (p steps latency : ℕ) → steps < 256 → padding_of p steps latency ≤ padding_limit_lem p
padding_short p steps latency l =
    let most : delay_step_lem p * steps ≤ delay_step_lem p * 255 = mul-le-mul_left (delay_step_lem p) (omega arith) in
    omega arith

buffer_fit : (b : OutputBuffer) → BufferFacts b → T (buffer_fit_lem b)
buffer_fit b f =
    rw (le-leb b.samples_in_buf.0 16777216 f.fill, le-leb b.buf_capacity.0 16777216 f.capacity, le-leb b.output_latency.0 16777216 f.latency, le-leb b.samples_in_buf.0 b.buf_capacity.0 f.room) tt

report_fit_law : (p fill latency : ℕ) (t : Progress) (owed : Bool) (old : Option SampleCount) → fill ≤ 16777216 → latency ≤ 16777216 → ProgressFacts p t → T (report_fit_lem p old)
    → T (report_fit_lem p (cond owed (Some (record { 0 = end_after_lem fill latency t })) old))
report_fit_law p fill latency t true old f l h r = rw (le-leb (end_after_lem fill latency t) (end_limit_lem p) (omega arith)) tt
report_fit_law p fill latency t false old f l h r = r

module _ (p : ℕ) (s : Control) (far : ProgressFacts p s.progress) (buffer : T (buffer_fit_lem s.buffer)) (report : T (report_fit_lem p s.pending.report_tx_end)) where
  pub frame_sound : (frame : ModulatorFrame) (symbols : List Float) → Byte frame → Sound p (frame_outcome p frame symbols s)
  unfolding Sound frame_outcome
  frame_sound NoFrame symbols h = (report, buffer)
  frame_sound (Preamble traffic steps) symbols h = (preamble_small traffic, padding_short p steps.0 _ (h traffic steps refl), report)
  frame_sound (GivenSymbols traffic) symbols h = each_given s (Sound p) traffic symbols (λ _. tt) (λ _ _ _. tt) (λ _ _ _. tt) (λ _ e _. (given_small symbols (subst T (sym e) tt), far.padding, report))
  frame_sound EndOfTransmission symbols h = (ending_small, far.padding, report)

  pub update_sound : (fill capacity latency : ℕ) → Sound p (update_outcome p fill capacity latency s)
  unfolding Sound
  update_sound fill capacity latency =
      each_update s (Sound p) p fill capacity latency (λ _. tt) (λ _ _. tt) λ small l.
      let c = counts_taken fill capacity latency small in (
        report_fit_law p fill latency s.progress s.pending.calculate_tx_end s.pending.report_tx_end c.0 c.2 far report,
        buffer_fit (buffer_of fill capacity latency) (record { fill = c.0; capacity = c.1; latency = c.2; room = l }),
      )

  pub action_sound : Sound p (action_outcome s)
  unfolding Sound
  action_sound = each_action s (Sound p) (record { told_end = λ _ _. (tt, buffer); unread = λ _ _. tt; idles = λ _ _ _. (report, buffer); wishes = λ _ _ _. tt; rests = λ _ _ _. tt })

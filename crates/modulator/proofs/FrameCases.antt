-- What `provided` is in each case of the rules for a frame. Assumes nothing.
use mathlib.Core.Path.{◌≡◌}
use mathlib.Core.Bool.{true, false}
use mathlib.Core.List.{List, []}
use lib.Ieee.{Float}
use Rattle.shaping.specs.Rate.{Rate}
use Rattle.protocol.specs.Refusals.{PaperRefusal, bare}
use Rattle.given_symbols.specs.declared.Traffic.{Traffic}
use Rattle.given_symbols.specs.Offender.{refused, fine, judged_as}
use Rattle.modulator.specs.declared.DelaySteps.{DelaySteps}
use Rattle.modulator.specs.declared.SoftModulator.{SoftModulator}
use Rattle.modulator.specs.declared.ModulatorFrame.{ModulatorFrame}
use Rattle.modulator.specs.declared.ModulatorFrame.TheVariants.{Nothing as NoFrame, Preamble, Symbols as GivenSymbols, EndOfTransmission}
use Rattle.modulator.specs.Paper.{refusal, done}
use Rattle.modulator.specs.Frame.{preamble, given, ending, padding_of}
use Rattle.modulator.specs.Control.{dropped, ended}
use Rattle.modulator.specs.Record.{with_pending, framed}
use Rattle.modulator.specs.Fit.{record_fit_lem, unfit_number}
use Rattle.modulator.specs.Outcome.{frame_outcome}
use Rattle.modulator.specs.Calls.{left, settled, provided}

module _ (R : Rate) (m : SoftModulator) (frame : ModulatorFrame) (symbols : List Float) where
  pub frame_unfit : record_fit_lem R.p m ≡ false → provided R m frame symbols ≡ left (refusal (bare (unfit_number m))) m []
  unfolding provided
  frame_unfit h = rw h

  module _ (fit : record_fit_lem R.p m ≡ true) where
    pub frame_none : frame ≡ NoFrame → provided R m frame symbols ≡ left done (with_pending (dropped m.pending) m.buffer m) []
    unfolding provided settled frame_outcome
    frame_none k = rw (fit, k)

    pub frame_preamble : (traffic : Traffic) (steps : DelaySteps) → frame ≡ Preamble traffic steps
        → provided R m frame symbols ≡ left done (framed R (preamble traffic) (padding_of R.p steps.0 m.buffer.output_latency.0) m.pending m) []
    unfolding provided settled frame_outcome
    frame_preamble traffic steps k = rw (fit, k)

    pub frame_ending : frame ≡ EndOfTransmission
        → provided R m frame symbols ≡ left done (framed R ending m.progress.tx_delay_padding.0 (ended m.pending) m) []
    unfolding provided settled frame_outcome
    frame_ending k = rw (fit, k)

    module _ (traffic : Traffic) (k : frame ≡ GivenSymbols traffic) where
      pub frame_refused : (why : PaperRefusal) → judged_as traffic symbols ≡ refused why → provided R m frame symbols ≡ left (refusal why) m []
      unfolding provided settled frame_outcome
      frame_refused why h = rw (fit, k, h)

      pub frame_given : judged_as traffic symbols ≡ fine
          → provided R m frame symbols ≡ left done (framed R (given symbols) m.progress.tx_delay_padding.0 m.pending m) []
      unfolding provided settled frame_outcome
      frame_given h = rw (fit, k, h)

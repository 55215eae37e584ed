-- What comes of a frame, an update and an action request, by the control: document 01's cases and refusals, once for record and rules. Assumes nothing.
use Rattle.modulator.specs.declared.SampleCount.{SampleCount}
use Rattle.std.specs.Prelude.{Bool, true, not, cond, ◌||◌, List, ℕ, ltb, Float, Option, Some, None}
use Rattle.protocol.specs.Refusals.{bare}
use Rattle.given_symbols.specs.Offender.{PaperVerdict, refused, fine, judged_as}
use Rattle.modulator.specs.declared.Pending.{Pending}
use Rattle.modulator.specs.declared.OutputBuffer.{OutputBuffer}
use Rattle.modulator.specs.declared.ModulatorFrame.{ModulatorFrame}
use Rattle.modulator.specs.declared.ModulatorFrame.TheVariants.{Nothing as NoFrame, Preamble, Symbols as GivenSymbols, EndOfTransmission}
use Rattle.modulator.specs.Paper.{Paper, refusal, done, transmit_end, read_output, idle, get_frame, nothing}
use Rattle.modulator.specs.Frame.{Symbols, preamble, given, ending, padding_of}
use Rattle.modulator.specs.Control.{Control, buffer_of, dropped, ended, end_after_lem, updated_pending_lem, reported, idled}
use Rattle.modulator.specs.Fit.{count_fit_lem}

pub data Outcome : Type 0 where
  -- an answer, with all as it was: "Every refusal returns its number only, with record and buffers as they were."
  only : Paper → Outcome
  -- an answer, with what is pending then and the card's buffer
  told : Paper → Pending → OutputBuffer → Outcome
  -- a frame, with the padding before it and what is pending then
  sends : Symbols → ℕ → Pending → Outcome

-- ---- a frame
-- 6, 71 to 74 and 11, of which 71 to 74 "are the first to return a place beside the number"
abbrev pub judged_outcome : PaperVerdict → List Float → Control → Outcome
judged_outcome (refused why) symbols s = only (refusal why)
judged_outcome fine symbols s = sends (given symbols) s.progress.tx_delay_padding.0 s.pending

-- "A frame is a preamble with TxDelay, 192 symbols, the end of transmission, or none. None only drops the wish for a frame." Of padding: "Only a preamble sets it."
unfoldable pub frame_outcome : ℕ → ModulatorFrame → List Float → Control → Outcome
frame_outcome p NoFrame symbols s = told done (dropped s.pending) s.buffer
frame_outcome p (Preamble traffic steps) symbols s = sends (preamble traffic) (padding_of p steps.0 s.buffer.output_latency.0) s.pending
frame_outcome p (GivenSymbols traffic) symbols s = judged_outcome (judged_as traffic symbols) symbols s
frame_outcome p EndOfTransmission symbols s = sends ending s.progress.tx_delay_padding.0 (ended s.pending)

-- ---- an update
-- 8: "fill, capacity or latency above 16,777,216"
abbrev pub too_large : ℕ → ℕ → ℕ → Bool
too_large fill capacity latency = not (count_fit_lem fill) || not (count_fit_lem capacity) || not (count_fit_lem latency)

-- 9: "capacity below fill"
unfoldable pub update_outcome : ℕ → ℕ → ℕ → ℕ → Control → Outcome
update_outcome p fill capacity latency s =
    cond (too_large fill capacity latency) (only (refusal (bare 8)))
    (cond (ltb capacity fill) (only (refusal (bare 9)))
    (told done (updated_pending_lem p fill capacity (end_after_lem fill latency s.progress) s.pending) (buffer_of fill capacity latency)))

-- ---- the next action
-- "first that applies: transmit end (once), read output if unread samples are left, idle yes (once from a fresh start), get a frame if wished, nothing"
unfoldable pub action_by : Option SampleCount → Control → Outcome
action_by (Some end) s = told (transmit_end end.0) (reported s.pending) s.buffer
action_by None s =
    cond (ltb s.progress.next_read s.progress.next_len) (only read_output)
    (cond s.pending.update_idle (told (idle true) (idled s.pending) s.buffer)
    (cond s.pending.try_get_frame (only get_frame)
    (only nothing)))

abbrev pub action_outcome : Control → Outcome
action_outcome s = action_by s.pending.report_tx_end s

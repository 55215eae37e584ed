-- What each call answers at a rate, and what it leaves: the record, and the room for samples. Assumes nothing.
use Rattle.protocol.specs.declared.Refusal.{Refusal}
use Rattle.modulator.specs.declared.After.{After}
use Rattle.modulator.specs.declared.ModulatorAction.{ModulatorAction}
use Rattle.std.specs.Prelude.{◌≡◌, not, cond, List, [], ℕ, ℤ, length, Float, Result}
use Rattle.shaping.specs.Rate.{Rate, rate_fit, rate_of}
use Rattle.protocol.specs.Refusals.{bare}
use Rattle.modulator.specs.declared.SampleCount.{SampleCount}
use Rattle.modulator.specs.declared.SoftModulator.{SoftModulator}
use Rattle.modulator.specs.declared.ModulatorFrame.{ModulatorFrame}
use Rattle.modulator.specs.Paper.{Paper, refusal, done, wrote, done_paper, read_paper, action_paper}
use Rattle.modulator.specs.Control.{written_count, read_on, room_after}
use Rattle.modulator.specs.Record.{fresh, control_of, stored_sample, with_progress, with_pending, framed}
use Rattle.modulator.specs.Fit.{record_fit_lem, unfit_number}
use Rattle.modulator.specs.Outcome.{Outcome, only, told, sends, frame_outcome, update_outcome, action_outcome}

-- ---- what a call leaves
pub record Left : Type 0 where
  pub answer : Paper
  pub modulator : SoftModulator
  pub room : List ℤ

abbrev pub left : Paper → SoftModulator → List ℤ → Left
left answer m room = record { answer = answer; modulator = m; room = room }

-- 15: "any rate but the two, checked first"; 1: "record unfit". "Where several apply, the smallest number is given": it comes before all others but 15.
abbrev pub unless_unfit : ℕ → SoftModulator → List ℤ → Left → Left
unless_unfit p m room l = cond (not (record_fit_lem p m)) (left (refusal (bare (unfit_number m))) m room) l

unfoldable pub settled : Rate → SoftModulator → Outcome → Left
settled R m (only answer) = left answer m []
settled R m (told answer pending buffer) = left answer (with_pending pending buffer m) []
settled R m (sends frame padding pending) = left done (framed R frame padding pending m) []

-- "Reading writes padding zeros first, then frame samples into the rest of the caller's room. It reports how many were written; the rest of the room is unchanged."
unfoldable pub drained : SoftModulator → List ℤ → Left
drained m room = left (wrote (written_count m.progress (length room))) (with_progress (read_on m.progress (length room)) m) (room_after (stored_sample m) m.progress room)

-- ---- the calls
module _ (R : Rate) (m : SoftModulator) where
  unfoldable pub provided : ModulatorFrame → List Float → Left
  provided frame symbols = unless_unfit R.p m [] (settled R m (frame_outcome R.p frame symbols (control_of m)))

  unfoldable pub read : List ℤ → Left
  read room = unless_unfit R.p m room (drained m room)

  unfoldable pub updated : ℕ → ℕ → ℕ → Left
  updated fill capacity latency = unless_unfit R.p m [] (settled R m (update_outcome R.p fill capacity latency (control_of m)))

  unfoldable pub ran : Left
  ran = unless_unfit R.p m [] (settled R m (action_outcome (control_of m)))

-- ---- a fresh record
-- A rate that is none is refused too; beside the refusal comes the record, which every call then refuses.
unfoldable pub made : ℕ → Left
made rate = left (cond (rate_fit rate) done (refusal (bare 15))) (fresh rate) []

-- ---- what the functions promise: each call is at the record's own rate
pub record NewSays (rate : ℕ) (r : After Unit) : Type 0 where
  pub answers : done_paper r.answer ≡ (made rate).answer
  pub leaves : r.modulator ≡ (made rate).modulator

pub record ProvideNextFrameSays (m : SoftModulator) (frame : ModulatorFrame) (symbols : List Float) (r : After Unit) : Type 0 where
  pub answers : done_paper r.answer ≡ (provided (rate_of m.rate) m frame symbols).answer
  pub leaves : r.modulator ≡ (provided (rate_of m.rate) m frame symbols).modulator

pub record ReadOutputSamplesSays (m : SoftModulator) (room : List ℤ) (r : After SampleCount) (after : List ℤ) : Type 0 where
  pub answers : read_paper r.answer ≡ (read (rate_of m.rate) m room).answer
  pub leaves : r.modulator ≡ (read (rate_of m.rate) m room).modulator
  pub writes : after ≡ (read (rate_of m.rate) m room).room

pub record UpdateOutputBufferSays (m : SoftModulator) (fill capacity latency : SampleCount) (r : After Unit) : Type 0 where
  pub answers : done_paper r.answer ≡ (updated (rate_of m.rate) m fill.0 capacity.0 latency.0).answer
  pub leaves : r.modulator ≡ (updated (rate_of m.rate) m fill.0 capacity.0 latency.0).modulator

pub record RunSays (m : SoftModulator) (r : After ModulatorAction) : Type 0 where
  pub answers : action_paper r.answer ≡ (ran (rate_of m.rate) m).answer
  pub leaves : r.modulator ≡ (ran (rate_of m.rate) m).modulator

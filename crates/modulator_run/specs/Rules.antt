-- Document 01, 'The sender', over the list of all calls since a fresh start, oldest first: no ring, no cursor, no store. At a rate. Assumes nothing.
use Rattle.std.specs.Prelude.{List, [], ◌++◌, ℕ, ◌+◌, ◌*◌, ℤ, length, Float}
use Rattle.numbers.specs.Firsts.{firsts}
use Rattle.machine.specs.Runs.{Machine, run, answers}
use Rattle.shaping.specs.Rate.{Rate}
use Rattle.modulator.specs.declared.Progress.{Progress}
use Rattle.modulator.specs.declared.Pending.{Pending}
use Rattle.modulator.specs.declared.OutputBuffer.{OutputBuffer}
use Rattle.modulator.specs.declared.ModulatorFrame.{ModulatorFrame}
use Rattle.modulator.specs.Paper.{Paper, done, wrote}
use Rattle.modulator.specs.Frame.{Symbols}
use Rattle.modulator.specs.Control.{Control, fresh_control, restarted, written_count, read_on, room_after}
use Rattle.modulator.specs.Outcome.{Outcome, only, told, sends, frame_outcome, update_outcome, action_outcome}
use Rattle.modulator_run.specs.Stream.{sent_at}

pub data Call : Type 0 where
  -- a frame, with the symbols beside the choice
  provide : ModulatorFrame → List Float → Call
  -- a read into the caller's room
  read : List ℤ → Call
  -- fill, capacity and latency
  update : ℕ → ℕ → ℕ → Call
  -- the next action
  ask : Call

-- what has come of the calls so far: the symbols of all frames provided, read or replaced; the samples that went before the frame at hand; how far that frame is read; and what is pending
pub record Sent : Type 0 where
  pub symbols : List Float
  pub before : ℕ
  pub progress : Progress
  pub pending : Pending
  pub buffer : OutputBuffer

-- what a call is answered with, and what its room then holds
pub record Said : Type 0 where
  pub answer : Paper
  pub room : List ℤ

pub record After : Type 0 where
  pub said : Said
  pub sent : Sent

abbrev pub start : Sent
start = record { symbols = []; before = 0; progress = fresh_control.progress; pending = fresh_control.pending; buffer = fresh_control.buffer }

-- the control, which a record keeps too
abbrev pub control_in : Sent → Control
control_in s = record { progress = s.progress; pending = s.pending; buffer = s.buffer }

abbrev pub after : Paper → List ℤ → Sent → After
after answer room s = record { said = record { answer = answer; room = room }; sent = s }

abbrev pub with_progress : Progress → Sent → Sent
with_progress progress s = record { symbols = s.symbols; before = s.before; progress = progress; pending = s.pending; buffer = s.buffer }

abbrev pub with_pending : Pending → OutputBuffer → Sent → Sent
with_pending pending buffer s = record { symbols = s.symbols; before = s.before; progress = s.progress; pending = pending; buffer = buffer }

module _ (R : Rate) where
  -- "Any other replaces unread samples: length and read place restart."
  unfoldable pub framed : Symbols → ℕ → Pending → Sent → Sent
  framed frame padding pending s = record {
    symbols = s.symbols ++ firsts frame.symbol frame.count;
    before = R.p * length s.symbols;
    progress = restarted R.p frame.count padding;
    pending = pending;
    buffer = s.buffer;
  }

  unfoldable pub settled : Sent → Outcome → After
  settled s (only answer) = after answer [] s
  settled s (told answer pending buffer) = after answer [] (with_pending pending buffer s)
  settled s (sends frame padding pending) = after done [] (framed frame padding pending s)

  -- sample i of the frame at hand is sample before + i + 1 of the stream
  abbrev pub frame_sample : Sent → ℕ → ℤ
  frame_sample s i = sent_at R s.symbols (s.before + i + 1)

  -- "Reading writes padding zeros first, then frame samples into the rest of the caller's room. It reports how many were written; the rest of the room is unchanged."
  unfoldable pub drained : List ℤ → Sent → After
  drained room s = after (wrote (written_count s.progress (length room))) (room_after (frame_sample s) s.progress room) (with_progress (read_on s.progress (length room)) s)

  unfoldable pub called : Sent → Call → After
  called s (provide frame symbols) = settled s (frame_outcome R.p frame symbols (control_in s))
  called s (read room) = drained room s
  called s (update fill capacity latency) = settled s (update_outcome R.p fill capacity latency (control_in s))
  called s ask = settled s (action_outcome (control_in s))

-- ---- the rules as a machine, and its runs from a fresh start
abbrev pub rules : Rate → Machine Sent Call Said
rules R = record { next = λ s c. (called R s c).sent; says = λ s c. (called R s c).said }

abbrev pub sent_all : Rate → List Call → Sent
sent_all R cs = run (rules R) start cs

abbrev pub said_all : Rate → List Call → List Said
said_all R cs = answers (rules R) start cs

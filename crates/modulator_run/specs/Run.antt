-- The record as a machine over the rules' calls, and its runs from a fresh start. Assumes nothing.
use Rattle.std.specs.Prelude.{List, ◌<◌}
use Rattle.machine.specs.Runs.{Machine, run, answers}
use Rattle.shaping.specs.Rate.{Rate, rate_of, per_second}
use Rattle.modulator.specs.declared.SoftModulator.{SoftModulator}
use Rattle.modulator.specs.declared.ModulatorFrame.{ModulatorFrame}
use Rattle.modulator.specs.declared.ModulatorFrame.TheVariants.{Nothing as NoFrame, Preamble, Symbols as GivenSymbols, EndOfTransmission}
use Rattle.modulator.specs.Record.{fresh}
use Rattle.modulator.specs.Calls.{Left, provided, updated, ran}
use Rattle.modulator.specs.Calls.{read as readInto}
use Rattle.modulator_run.specs.Rules.{Call, provide, read, update, ask, Said}

-- one call on a record, at a rate
unfoldable pub left_at : Rate → SoftModulator → Call → Left
left_at R m (provide frame symbols) = provided R m frame symbols
left_at R m (read room) = readInto R m room
left_at R m (update fill capacity latency) = updated R m fill capacity latency
left_at R m ask = ran R m

-- at its own, as the functions promise
abbrev pub left : SoftModulator → Call → Left
left m c = left_at (rate_of m.rate) m c

-- what the caller sees of it, besides the record
abbrev pub said_by : Left → Said
said_by l = record { answer = l.answer; room = l.room }

abbrev pub sender : Machine SoftModulator Call Said
sender = record { next = λ m c. (left m c).modulator; says = λ m c. said_by (left m c) }

-- a fresh record of a rate
abbrev pub fresh_at : Rate → SoftModulator
fresh_at R = fresh (per_second R.p)

abbrev pub record_after : Rate → List Call → SoftModulator
record_after R cs = run sender (fresh_at R) cs

abbrev pub answers_to : Rate → List Call → List Said
answers_to R cs = answers sender (fresh_at R) cs

-- ---- what a caller can give: a TxDelay is a byte's value; nothing else is asked
unfoldable pub Delay : ModulatorFrame → Type 0
Delay NoFrame = Unit {0}
Delay (Preamble traffic steps) = steps.0 < 256
Delay (GivenSymbols traffic) = Unit {0}
Delay EndOfTransmission = Unit {0}

unfoldable pub Given : Call → Type 0
Given (provide frame symbols) = Delay frame
Given (read room) = Unit {0}
Given (update fill capacity latency) = Unit {0}
Given ask = Unit {0}

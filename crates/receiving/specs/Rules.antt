-- What receive writes of all the bytes of its input, by the receiver's rules since a fresh start. Assumes nothing.
use Rattle.std.specs.Prelude.{List, ℕ, Option}
use Rattle.machine.specs.Runs.{Machine}
use Rattle.shaping.specs.Rate.{at48}
use Rattle.demodulator.specs.Calls.{nothing}
use Rattle.demodulator.specs.Singles.{Single, Said}
use Rattle.demodulator_run.specs.Rules.{History, start}
use Rattle.listening.specs.Rules.{rules_at}
use Rattle.receiving.specs.Pairs.{samples_of}
use Rattle.receiving.specs.Text.{text_from}
use Rattle.receiving.specs.Hear.{Intake, intake_of}

abbrev pub rules48 : Machine History Single Said
rules48 = rules_at at48

unfoldable pub received_text : List ℕ → List ℕ
received_text bytes = text_from rules48 start (samples_of bytes)

-- a call with bytes: the rules have no unfit record
abbrev pub rules_intake : History → Option ℕ → List ℕ → ℕ → Intake History
rules_intake = intake_of rules48 (λ (h : History). nothing)

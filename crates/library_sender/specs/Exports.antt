-- What each export of the sender promises: the code, and every lent place as the call leaves it, of whatever memory. Assumes nothing.
use Rattle.std.specs.Prelude.{◌≡◌, cond, List, [], ◌∷◌, ℕ, eqb, ℤ, Float}
use Rattle.std.specs.Float.{binary32}
use Rattle.std.specs.Float.Ieee.{of_bits}
use Rattle.given_symbols.specs.declared.Traffic.{Traffic}
use Rattle.given_symbols.specs.declared.Traffic.TheVariants.{Ordinary, Bert}
use Rattle.modulator.specs.declared.ModulatorFrame.{ModulatorFrame}
use Rattle.modulator.specs.declared.ModulatorFrame.TheVariants.{Nothing, Preamble, Symbols, EndOfTransmission}
use Rattle.modulator.specs.Calls.{made}
use Rattle.modulator_run.specs.Rules.{provide, read, update, ask}
use Rattle.library_sender.specs.Memory.{Memory, laid_out, paper_code, Export, export_of, Coded, coded_as, unless_refused, memory_says, memory_next}

-- ---- a call's promise: what the memory says, and what it leaves
pub record Says (m : Memory) (e : Export) (a : Coded) (after : Memory) : Type 0 where
  pub answers : a ≡ memory_says m e
  pub leaves : after ≡ memory_next m e

-- a frame has no room and tells no number
abbrev pub Provides : Memory → ModulatorFrame → List Float → ℕ → Memory → Type 0
Provides m frame symbols code after = Says m (export_of (provide frame symbols) 0) (coded_as code [] 0) after

-- 0 is ordinary traffic, any other number a link test
abbrev pub traffic_of : ℕ → Traffic
traffic_of bert = cond (eqb bert 0) Ordinary Bert

-- the symbols beside a frame that has none of its own: they are not read
abbrev pub no_symbols : List Float
no_symbols = of_bits binary32 0 ∷ []

-- ---- the eight exports
pub record M17SenderNewSays (m : Memory) (rate code : ℕ) (after : Memory) : Type 0 where
  pub answers : code ≡ paper_code (made rate).answer
  pub leaves : after ≡ unless_refused code m (laid_out (made rate).modulator)

abbrev pub M17SenderPreambleSays : Memory → ℕ → ℕ → ℕ → Memory → Type 0
M17SenderPreambleSays m bert steps = Provides m (Preamble (traffic_of bert) (record { 0 = steps })) no_symbols

abbrev pub M17SenderSymbolsSays : Memory → ℕ → List Float → ℕ → Memory → Type 0
M17SenderSymbolsSays m bert = Provides m (Symbols (traffic_of bert))

abbrev pub M17SenderEndSays : Memory → ℕ → Memory → Type 0
M17SenderEndSays m = Provides m EndOfTransmission no_symbols

abbrev pub M17SenderNoFrameSays : Memory → ℕ → Memory → Type 0
M17SenderNoFrameSays m = Provides m Nothing no_symbols

abbrev pub M17SenderReadSays : Memory → List ℤ → ℕ → ℕ → Memory → List ℤ → ℕ → Type 0
M17SenderReadSays m out told code after filled count = Says m (export_of (read out) told) (coded_as code filled count) after

abbrev pub M17SenderUpdateSays : Memory → ℕ → ℕ → ℕ → ℕ → Memory → Type 0
M17SenderUpdateSays m fill capacity latency code after = Says m (export_of (update fill capacity latency) 0) (coded_as code [] 0) after

abbrev pub M17SenderRunSays : Memory → ℕ → ℕ → Memory → ℕ → Type 0
M17SenderRunSays m told code after number = Says m (export_of ask told) (coded_as code [] number) after

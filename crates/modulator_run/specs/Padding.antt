-- What is left of the padding, by the calls alone. Over p, the samples in a symbol. Assumes nothing.
use Rattle.std.specs.Prelude.{◌≡◌, cond, List, [], ◌∷◌, ◌++◌, ℕ, ◌+◌, ◌-◌, T, length, Float}
use Rattle.given_symbols.specs.declared.Traffic.{Traffic}
use Rattle.modulator.specs.declared.DelaySteps.{DelaySteps}
use Rattle.modulator.specs.declared.ModulatorFrame.TheVariants.{Preamble}
use Rattle.modulator.specs.Frame.{padding_of}
use Rattle.modulator_run.specs.Rules.{Call, provide, read, update, ask}
use Rattle.modulator_run.specs.Kinds.{stores, delays, none}

-- "An update stores fill, capacity and latency."
unfoldable pub latency_of : Call → ℕ
latency_of (provide frame symbols) = 0
latency_of (read room) = 0
latency_of (update fill capacity latency) = latency
latency_of ask = 0

-- the latency of the last update that was not refused; 0 before the first
unfoldable pub last_latency : List Call → ℕ
last_latency [] = 0
last_latency (c ∷ cs) = cond (none stores cs) (cond (stores c) (latency_of c) 0) (last_latency cs)

-- the places that a read is lent
unfoldable pub places_of : Call → ℕ
places_of (provide frame symbols) = 0
places_of (read room) = length room
places_of (update fill capacity latency) = 0
places_of ask = 0

unfoldable pub places_read_lem : List Call → ℕ
places_read_lem [] = 0
places_read_lem (c ∷ cs) = places_of c + places_read_lem cs

-- So many samples of padding are left. "Padding is TxDelay in samples less the latency, never below 0. Only a preamble sets it." "Reading writes padding zeros first."
pub data PaddingLeft (p : ℕ) (cs : List Call) : ℕ → Type 0 where
  -- no preamble came, of either traffic
  unset : T (none delays cs) → PaddingLeft p cs 0
  -- the last preamble's, by the latency then, less the places of all reads since
  set : (before : List Call) (traffic : Traffic) (steps : DelaySteps) (symbols : List Float) (since : List Call) → cs ≡ before ++ provide (Preamble traffic steps) symbols ∷ since → T (none delays since)
      → PaddingLeft p cs (padding_of p steps.0 (last_latency before) - places_read_lem since)

-- Calls by their kind, and what one kind starts and another stops, by the calls alone. Over p, the samples in a symbol. Assumes nothing.
use Rattle.std.specs.Prelude.{◌≡◌, Bool, true, false, not, ◌&&◌, List, [], ◌∷◌, ◌++◌, ℕ, ◌-◌, T, eqb, leb, ltb, length}
use Rattle.shaping.specs.Rate.{wish_room_lem}
use Rattle.given_symbols.specs.Offender.{all_fit, headed}
use Rattle.modulator.specs.declared.ModulatorFrame.TheVariants.{Nothing as NoFrame, Preamble, Symbols as GivenSymbols, EndOfTransmission}
use Rattle.modulator.specs.Outcome.{too_large}
use Rattle.modulator_run.specs.Rules.{Call, provide, read, update, ask}

-- an update that is not refused. 8: "fill, capacity or latency above 16,777,216"; 9: "capacity below fill"
unfoldable pub stores : Call → Bool
stores (provide frame symbols) = false
stores (read room) = false
stores (update fill capacity latency) = not (too_large fill capacity latency) && not (ltb capacity fill)
stores ask = false

-- "If capacity - fill is at least 2,000 the wish for a frame is raised."
unfoldable pub raises : ℕ → Call → Bool
raises p (provide frame symbols) = false
raises p (read room) = false
raises p (update fill capacity latency) = stores (update fill capacity latency) && leb (wish_room_lem p) (capacity - fill)
raises p ask = false

unfoldable pub asks : Call → Bool
asks (provide frame symbols) = false
asks (read room) = false
asks (update fill capacity latency) = false
asks ask = true

-- "None only drops the wish for a frame."
unfoldable pub drops : Call → Bool
drops (provide NoFrame symbols) = true
drops (provide (Preamble traffic steps) symbols) = false
drops (provide (GivenSymbols traffic) symbols) = false
drops (provide EndOfTransmission symbols) = false
drops (read room) = false
drops (update fill capacity latency) = false
drops ask = false

-- "Any other replaces unread samples": each frame but none, if it is not refused. 6: "symbols not exactly 192"; 71 to 74:
-- "not a number, infinite, above 1, below -1"; 11: "a BERT frame whose first eight symbols are not that burst's signs"
unfoldable pub replaces : Call → Bool
replaces (provide NoFrame symbols) = false
replaces (provide (Preamble traffic steps) symbols) = true
replaces (provide (GivenSymbols traffic) symbols) = eqb (length symbols) 192 && (all_fit symbols && headed traffic symbols)
replaces (provide EndOfTransmission symbols) = true
replaces (read room) = false
replaces (update fill capacity latency) = false
replaces ask = false

-- Of padding: "Only a preamble sets it."
unfoldable pub delays : Call → Bool
delays (provide NoFrame symbols) = false
delays (provide (Preamble traffic steps) symbols) = true
delays (provide (GivenSymbols traffic) symbols) = false
delays (provide EndOfTransmission symbols) = false
delays (read room) = false
delays (update fill capacity latency) = false
delays ask = false

-- "End of transmission appends .. and a transmit end owed."
unfoldable pub ends : Call → Bool
ends (provide NoFrame symbols) = false
ends (provide (Preamble traffic steps) symbols) = false
ends (provide (GivenSymbols traffic) symbols) = false
ends (provide EndOfTransmission symbols) = true
ends (read room) = false
ends (update fill capacity latency) = false
ends ask = false

-- no call of the list is of a kind
unfoldable pub none : (Call → Bool) → List Call → Bool
none kind [] = true
none kind (c ∷ cs) = not (kind c) && none kind cs

-- Among these calls is one that starts, and none since that stops.
pub record Lasting (starts stops : Call → Bool) (cs : List Call) : Type 0 where
  pub before : List Call
  pub call : Call
  pub since : List Call
  pub parts : cs ≡ before ++ call ∷ since
  pub started : T (starts call)
  pub unstopped : T (none stops since)

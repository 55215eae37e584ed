-- Frame samples unread, by the calls alone. Over p, the samples in a symbol. Assumes nothing.
use Rattle.std.specs.Prelude.{List, [], ◌∷◌, ◌++◌, ℕ, ◌-◌, ◌*◌, T}
use Rattle.modulator.specs.declared.ModulatorFrame.TheVariants.{Nothing as NoFrame, Preamble, Symbols as GivenSymbols, EndOfTransmission}
use Rattle.modulator.specs.Frame.{preamble, given, ending}
use Rattle.modulator_run.specs.Rules.{Call, provide, read, update, ask}
use Rattle.modulator_run.specs.Kinds.{replaces, none, Lasting}
use Rattle.modulator_run.specs.Padding.{places_read_lem, PaddingLeft}

-- the symbols of a call's frame
unfoldable pub symbols_of_lem : Call → ℕ
symbols_of_lem (provide NoFrame symbols) = 0
symbols_of_lem (provide (Preamble traffic steps) symbols) = (preamble traffic).count
symbols_of_lem (provide (GivenSymbols traffic) symbols) = (given symbols).count
symbols_of_lem (provide EndOfTransmission symbols) = ending.count
symbols_of_lem (read room) = 0
symbols_of_lem (update fill capacity latency) = 0
symbols_of_lem ask = 0

-- So many frame samples are unread. "Any other replaces unread samples: length and read place restart." "Reading writes
-- padding zeros first, then frame samples into the rest of the caller's room."
pub data UnreadLeft (p : ℕ) (cs : List Call) : ℕ → Type 0 where
  -- no frame came
  unsent : T (none replaces cs) → UnreadLeft p cs 0
  -- the last frame's samples, less the places of all reads since that the padding left after it did not take
  sent : (last : Lasting replaces replaces cs) (padding : ℕ) → PaddingLeft p (last.before ++ last.call ∷ []) padding
      → UnreadLeft p cs (p * symbols_of_lem last.call - (places_read_lem last.since - padding))

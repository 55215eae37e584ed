-- The frames: their symbols, and how many there are. Assumes nothing.
use Rattle.std.specs.Prelude.{Bool, ◌&&◌, List, ℕ, ◌-◌, ◌*◌, length, Float}
use Rattle.std.specs.Float.{binary32}
use Rattle.std.specs.Float.Ieee.{of_int, neg, le}
use Rattle.shaping.specs.Rate.{delay_step_lem}
use Rattle.encode.specs.Frames.{preamble_sign, bert_preamble_symbol, ending_symbol}
use Rattle.pulse.specs.Pulse.{listed}
use Rattle.given_symbols.specs.declared.Traffic.{Traffic}
use Rattle.given_symbols.specs.declared.Traffic.TheVariants.{Ordinary, Bert}

-- the symbols of a frame, and their number
pub record Symbols : Type 0 where
  pub symbol : ℕ → Float
  pub count : ℕ

-- "The sender gets a BERT preamble, the ordinary one with every sign turned"
unfoldable pub preamble_symbol : Traffic → ℕ → Float
preamble_symbol Ordinary i = of_int binary32 (preamble_sign i)
preamble_symbol Bert i = bert_preamble_symbol i

abbrev pub preamble : Traffic → Symbols
preamble traffic = record { symbol = preamble_symbol traffic; count = 192 }

abbrev pub listing : List Float → Symbols
listing symbols = record { symbol = listed symbols; count = length symbols }

abbrev pub given : List Float → Symbols
given symbols = record { symbol = listed symbols; count = 192 }

-- "End of transmission appends 80 zero symbols"
abbrev pub ending : Symbols
ending = record { symbol = ending_symbol; count = 272 }

-- within ±size, the bounds with it; a not-a-number never is
abbrev pub within : Float → Float → Bool
within size value = le (neg size) value && le value size

-- "Padding is TxDelay in samples less the latency, never below 0." "One step is 480 samples."; document 02 k): "one TxDelay step is 240 samples"
abbrev pub padding_of : ℕ → ℕ → ℕ → ℕ
padding_of p steps latency = delay_step_lem p * steps - latency

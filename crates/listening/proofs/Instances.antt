-- Small instances of what the laws ask. Assumes nothing.
use mathlib.Core.List.{[], ◌∷◌}
use lib.Dec.{lit≤}
use lib.IntN.{pos}
use Rattle.demodulator.specs.Record.{fresh}
use Rattle.listening.specs.Listen.{stretch_of}
use Rattle.listening.proofs.Stretches.{Goes, goes}

-- one sample into a fresh record
first_goes : Goes (fresh 48000) (pos 0 ∷ []) (stretch_of (fresh 48000) (pos 0 ∷ []))
first_goes = goes (fresh 48000) (pos 0 ∷ []) (lit≤ tt)

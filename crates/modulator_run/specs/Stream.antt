-- The samples of a stream of symbols, from the symbols alone. Over p, the samples in a symbol, or at a rate. Assumes nothing.
use Rattle.std.specs.Prelude.{List, [], ◌∷◌, ◌++◌, ℕ, zero, suc, ◌+◌, ◌-◌, ◌*◌, ℤ, get_or, replicate, Float}
use Rattle.std.specs.Float.{binary32}
use Rattle.std.specs.Float.Ieee.{of_bits, mul, to_signed}
use Rattle.shaping.specs.Rate.{Rate}
use Rattle.shaping.specs.Sum.{dot}

-- "A symbol makes ten samples: the symbol times 35461.0 enters the 81-place window, then nine times 0.0."
unfoldable pub entered : ℕ → List Float → List Float
entered p [] = []
entered p (symbol ∷ more) = mul binary32 symbol (of_bits binary32 0x470a_8500) ∷ (replicate (p - 1) (of_bits binary32 0) ++ entered p more)

-- what enters with sample t, numbered from 1; 0.0 before the first and past the last
unfoldable pub entering_at : ℕ → List Float → ℕ → Float
entering_at p symbols zero = of_bits binary32 0
entering_at p symbols (suc t) = get_or (entered p symbols) t (of_bits binary32 0)

-- "Each sample is the tap sum as for F, cut toward zero to i16."
unfoldable pub sent_at : Rate → List Float → ℕ → ℤ
sent_at R symbols t = to_signed 15 (dot R.taps (λ (i : ℕ). entering_at R.p symbols ((t + i) - 8 * R.p)))

-- "All lie within ±16,383 from a fresh start." Assumes nothing.
use Rattle.std.specs.Prelude.{List, ℕ, ◌≤◌, ◌<◌, T, ℤ, nat_abs, length, get_or, Float}
use Rattle.std.specs.Float.{nan}
use Rattle.shaping.specs.Phase.{sample_limit}
use Rattle.given_symbols.specs.Offender.{symbol_fit}

-- each symbol lies from -1 to 1, the zeros of the flush with them
abbrev pub SymbolsFit : List Float → Type 0
SymbolsFit symbols = (i : ℕ) → i < length symbols → T (symbol_fit (get_or symbols i nan))

abbrev pub Quiet : ℤ → Type 0
Quiet sample = nat_abs sample ≤ sample_limit

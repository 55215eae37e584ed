-- The spans that the rules read, over p, the samples in a symbol, and over a reader of the filtered values: `back j` is the value j samples ago, 0 the newest. Assumes nothing.
use Rattle.std.specs.Prelude.{ℕ, ◌-◌, ◌*◌, Float}
use Rattle.decode.specs.Correlator.{symbol_of}
use Rattle.search.specs.declared.Shown.{Shown}

-- "the eight values F(k-70), F(k-60), .. F(k)"
abbrev pub eight : ℕ → (ℕ → Float) → ℕ → Float
eight p back i = back (p * (7 - i))

-- "symbol i = (F(d-1910+10i) - shift) / gain for i = 0 to 191"; document 02 k): "symbols lie at d-955+5i"
abbrev pub symbol_at : ℕ → Shown → (ℕ → Float) → ℕ → Float
symbol_at p shown back i = symbol_of shown.gain shown.shift (back (p * (191 - i)))

-- How a float is written. Assumes nothing.
use Rattle.std.specs.Prelude.{List, ℕ, [], ◌∷◌, ◌^◌, ◌-◌, flat_map, cond, false, Float}
use Rattle.std.specs.Float.{binary32}
use Rattle.std.specs.Float.Ieee.{to_bits, is_nan}
use Rattle.std.specs.Fmt.{digits, padded_integral, format_spec}

-- `nan`, or the eight digits of the bit pattern to the base of 16, with 0 before them as far as they are fewer
abbrev pub float_text : Float → List ℕ
float_text x = cond (is_nan x) (110 ∷ 97 ∷ 110 ∷ []) (padded_integral (format_spec 32 0 4 8 (2 ^ 64 - 1)) false [] (digits 16 false (to_bits binary32 x)))

-- several, each after a space
abbrev pub float_texts : List Float → List ℕ
float_texts xs = flat_map (λ (x : Float). 32 ∷ float_text x) xs

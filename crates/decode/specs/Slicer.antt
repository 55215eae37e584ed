-- Document 01, 'Slicer'. Assumes nothing.
use Rattle.std.specs.Prelude.{◌≡◌, cond, List, [], ◌∷◌, ℕ, Float}
use Rattle.std.specs.Float.{binary32}
use Rattle.std.specs.Float.Ieee.{of_bits, lt}

-- 0.667 and -0.667, by the f32 nearest to each
abbrev pub outer : Float
outer = of_bits binary32 0x3f2a_c083

abbrev pub outer_below : Float
outer_below = of_bits binary32 0xbf2a_c083

-- "Above 0.667 gives 01; above 0.0 gives 00; above -0.667 gives 10; anything else, not-a-number included, gives 11."
unfoldable pub sliced : Float → List ℕ
sliced symbol =
    cond (lt outer symbol) (0 ∷ 1 ∷ [])
    (cond (lt (of_bits binary32 0) symbol) (0 ∷ 0 ∷ [])
    (cond (lt outer_below symbol) (1 ∷ 0 ∷ [])
    (1 ∷ 1 ∷ [])))

-- ---- what the function promises
abbrev pub DecodeSampleSays : Float → List ℕ → Type 0
DecodeSampleSays symbol r = r ≡ sliced symbol

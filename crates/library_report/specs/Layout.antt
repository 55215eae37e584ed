-- What a report's numbers and gains mean, and the numbers and gains of a report. Assumes nothing.
use Rattle.std.specs.Prelude.{◌≡◌, Bool, cond, ◌&&◌, List, [], ◌∷◌, ℕ, ◌+◌, ◌-◌, eqb, ltb, leb, length, get_or, Float, Option, Some, None}
use Rattle.std.specs.Float.{binary32, nan}
use Rattle.std.specs.Float.Ieee.{of_bits}
use Rattle.numbers.specs.Firsts.{firsts}
use Rattle.figures.specs.declared.Report.{Report}

-- what the type of a report says: 24 totals at each rate
pub record FullTotals (r : Report) : Type 0 where
  pub first : length r.at_48.totals ≡ 24
  pub second : length r.at_24.totals ≡ 24

-- ---- numbers that are a report's: a flag is 0 or 1
abbrev pub is_report_lem : List ℕ → Bool
is_report_lem n = leb (get_or n 48 0) 1 && leb (get_or n 49 0) 1 && leb (get_or n 50 0) 1 && leb (get_or n 51 0) 1

-- ---- the report that they are
unfoldable pub totals_from_lem : ℕ → List ℕ → List ℕ
totals_from_lem place n = firsts (λ (i : ℕ). get_or n (place + i) 0) 24

unfoldable pub gain_in_lem : ℕ → Float → Option Float
gain_in_lem held gain = cond (eqb held 0) None (Some gain)

abbrev pub report_in_lem : List ℕ → List Float → Report
report_in_lem n g = record {
  at_48 = record { totals = totals_from_lem 0 n; smallest = gain_in_lem (get_or n 48 0) (get_or g 0 nan); largest = gain_in_lem (get_or n 49 0) (get_or g 1 nan) };
  at_24 = record { totals = totals_from_lem 24 n; smallest = gain_in_lem (get_or n 50 0) (get_or g 2 nan); largest = gain_in_lem (get_or n 51 0) (get_or g 3 nan) };
}

-- ---- a report's numbers: the totals at 48 kHz, those at 24 kHz, and which gains there are
abbrev pub held_number_lem : Option Float → ℕ
held_number_lem None = 0
held_number_lem (Some gain) = 1

abbrev pub held_flags : Report → List ℕ
held_flags r = held_number_lem r.at_48.smallest ∷ held_number_lem r.at_48.largest ∷ held_number_lem r.at_24.smallest ∷ held_number_lem r.at_24.largest ∷ []

abbrev pub number_at_lem : List ℕ → List ℕ → List ℕ → ℕ → ℕ
number_at_lem first second held i = cond (ltb i 24) (get_or first i 0) (cond (ltb i 48) (get_or second (i - 24) 0) (get_or held (i - 48) 0))

unfoldable pub numbers_of_lem : Report → List ℕ
numbers_of_lem r = firsts (number_at_lem r.at_48.totals r.at_24.totals (held_flags r)) 52

-- ---- and its gains, 0.0 where there is none
abbrev pub gain_number_lem : Option Float → Float
gain_number_lem None = of_bits binary32 0
gain_number_lem (Some gain) = gain

abbrev pub gains_of_lem : Report → List Float
gains_of_lem r = gain_number_lem r.at_48.smallest ∷ gain_number_lem r.at_48.largest ∷ gain_number_lem r.at_24.smallest ∷ gain_number_lem r.at_24.largest ∷ []

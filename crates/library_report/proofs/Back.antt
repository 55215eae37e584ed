-- There and back: a report comes back from its numbers as it was, and numbers that are a report's come back as they were. Assumes nothing.
use Rattle.std.specs.Prelude.{Option, Some, None}
use mathlib.Core.Path.{◌≡◌, refl, sym, ap, ◌∙◌}
use mathlib.Core.Bool.{true}
use mathlib.Core.List.{List}
use Prim.Native.Nat.{ℕ, ◌+◌, ◌<◌}
use native.Mathlib.Omega.{arith}
use lib.Dec.{leb}
use lib.ListN.{length, get_or}
use lib.Seq.{ext_get_or}
use lib.Ieee.{Float}
use Rattle.numbers.proofs.Firsts.{firsts_at, length_firsts}
use Rattle.figures.specs.declared.Report.{Report}
use Rattle.library_report.specs.Layout.{FullTotals, is_report_lem, totals_from_lem, gain_in_lem, report_in_lem, held_number_lem, numbers_of_lem, gain_number_lem, gains_of_lem}
use Rattle.library_report.proofs.NumberPlaces.{first_number, second_number, held_number}

-- ---- totals
pub totals_long : (place : ℕ) (n : List ℕ) → length (totals_from_lem place n) ≡ 24
unfolding totals_from_lem
totals_long place n = length_firsts (λ (i : ℕ). get_or n (place + i) 0) 24

totals_at : (place : ℕ) (n : List ℕ) (i : ℕ) → i < 24 → get_or (totals_from_lem place n) i 0 ≡ get_or n (place + i) 0
unfolding totals_from_lem
totals_at place n i few = firsts_at (λ (j : ℕ). get_or n (place + j) 0) 24 i 0 few

totals_back : (place : ℕ) (n totals : List ℕ) → length totals ≡ 24 → ((i : ℕ) → i < 24 → get_or n (place + i) 0 ≡ get_or totals i 0) → totals_from_lem place n ≡ totals
totals_back place n totals size same =
    ext_get_or 0 (totals_from_lem place n) totals (totals_long place n ∙ sym size) (λ i l.
    let few : i < 24 = omega (arith, l, totals_long place n) in
    totals_at place n i few ∙ same i few)

-- ---- a gain
gain_back : (g : Option Float) → gain_in_lem (held_number_lem g) (gain_number_lem g) ≡ g
unfolding gain_in_lem
gain_back None = refl
gain_back (Some x) = refl

held_few : (g : Option Float) → leb (held_number_lem g) 1 ≡ true
held_few None = refl
held_few (Some x) = refl

-- ---- "the report survives a way through its numbers unchanged"
module _ (r : Report) where
  flag_0 : get_or (numbers_of_lem r) 48 0 ≡ held_number_lem r.at_48.smallest
  flag_0 = held_number r 0 (omega arith)

  flag_1 : get_or (numbers_of_lem r) 49 0 ≡ held_number_lem r.at_48.largest
  flag_1 = held_number r 1 (omega arith)

  flag_2 : get_or (numbers_of_lem r) 50 0 ≡ held_number_lem r.at_24.smallest
  flag_2 = held_number r 2 (omega arith)

  flag_3 : get_or (numbers_of_lem r) 51 0 ≡ held_number_lem r.at_24.largest
  flag_3 = held_number r 3 (omega arith)

  held_back : (at : ℕ) (g : Option Float) → at ≡ held_number_lem g → gain_in_lem at (gain_number_lem g) ≡ g
  held_back at g e = ap (λ (n : ℕ). gain_in_lem n (gain_number_lem g)) e ∙ gain_back g

  pub report_back : FullTotals r → report_in_lem (numbers_of_lem r) (gains_of_lem r) ≡ r
  report_back t =
      let first = totals_back 0 (numbers_of_lem r) r.at_48.totals t.first (first_number r) in
      let second = totals_back 24 (numbers_of_lem r) r.at_24.totals t.second (second_number r) in
      let low-48 = held_back _ r.at_48.smallest flag_0 in
      let high-48 = held_back _ r.at_48.largest flag_1 in
      let low-24 = held_back _ r.at_24.smallest flag_2 in
      let high-24 = held_back _ r.at_24.largest flag_3 in
      λ i. record {
        at_48 = record { totals = first i; smallest = low-48 i; largest = high-48 i };
        at_24 = record { totals = second i; smallest = low-24 i; largest = high-24 i };
      }

  -- a report's numbers are a report's
  pub put_report : is_report_lem (numbers_of_lem r) ≡ true
  put_report =
      rw (
        flag_0,
        flag_1,
        flag_2,
        flag_3,
        held_few r.at_48.smallest,
        held_few r.at_48.largest,
        held_few r.at_24.smallest,
        held_few r.at_24.largest,
      ) refl

-- what any numbers mean has 24 totals at each rate, so it comes back
pub in_full : (n : List ℕ) (g : List Float) → FullTotals (report_in_lem n g)
in_full n g = record { first = totals_long 0 n; second = totals_long 24 n }

pub meant_again : (n : List ℕ) (g : List Float) → report_in_lem (numbers_of_lem (report_in_lem n g)) (gains_of_lem (report_in_lem n g)) ≡ report_in_lem n g
meant_again n g = report_back (report_in_lem n g) (in_full n g)

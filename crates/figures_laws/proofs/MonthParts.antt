-- A month in two parts, gone through apart and merged: none is refused in the whole, and it leaves what the merge does. Assumes nothing.
use mathlib.Core.Path.{◌≡◌, refl, sym, ap, ◌∙◌}
use mathlib.Core.Bool.{true}
use mathlib.Core.List.{List, [], ◌∷◌, ◌++◌}
use lib.ListN.{length}
use Rattle.numbers.proofs.Firsts.{length_firsts}
use Rattle.machine.specs.Runs.{Each}
use Rattle.machine.proofs.Parts.{each_joined}
use Rattle.figures.specs.declared.Report.{Report}
use Rattle.figures.specs.Totals.{no_report, report_fit_lem, summed_at, summed, plus, both}
use Rattle.figures.specs.Answers.{done, merged}
use Rattle.figures.proofs.AddLaws.{new_fit}
use Rattle.figures_laws.specs.Month.{Given, Fair, report_in_lem, Recording, month, AllDone, run_all}
use Rattle.figures_laws.specs.Typed.{GoodReport}
use Rattle.figures_laws.proofs.ReportSums.{empty_good, both_good, both_three}
use Rattle.figures_laws.proofs.AnyOrder.{report_good}
use Rattle.figures_laws.proofs.OneAdded.{joined_fit}
use Rattle.figures_laws.proofs.Months.{done_then, done_when, run_leaves}
use Rattle.figures_laws.proofs.MergeLaws.{merge_facts}
use Rattle.figures_laws.proofs.MergeEmpty.{both_empty}

-- 24 totals at either rate
pub record Sized (r : Report) : Type 0 where
  pub first : length r.at_48.totals ≡ 24
  pub second : length r.at_24.totals ≡ 24

both_sized : (a b : Report) → Sized (both a b)
unfolding both plus summed
both_sized a b = record { first = length_firsts (summed_at a.at_48.totals b.at_48.totals) 24; second = length_firsts (summed_at a.at_24.totals b.at_24.totals) 24 }

month_sized : (xs : List Recording) (r : Report) → Sized r → Sized (month r xs)
unfolding month
month_sized [] r s = s
month_sized (x ∷ xs) r s = month_sized xs (both r (report_in_lem x)) (both_sized r (report_in_lem x))

month_good : (xs : List Recording) (r : Report) → Each Given xs → Each Fair xs → GoodReport r → GoodReport (month r xs)
unfolding month Each
month_good [] r g f p = p
month_good (x ∷ xs) r g f p = month_good xs (both r (report_in_lem x)) g.1 f.1 (both_good r (report_in_lem x) p (report_good x g.0 f.0))

month_joined : (xs ys : List Recording) (r : Report) → month r (xs ++ ys) ≡ month (month r xs) ys
unfolding month
month_joined [] ys r = refl
month_joined (x ∷ xs) ys r = month_joined xs ys (both r (report_in_lem x))

-- what was there before a part can be added after it
month_apart : (ys : List Recording) (r s : Report) → Each Given ys → Each Fair ys → GoodReport r → GoodReport s
    → month (both r s) ys ≡ both r (month s ys)
unfolding month Each
month_apart [] r s g f p q = refl
month_apart (y ∷ ys) r s g f p q =
    let u = report_good y g.0 f.0 in
    ap (λ (m : Report). month m ys) (both_three r s p q (report_in_lem y) u) ∙ month_apart ys r (both s (report_in_lem y)) g.1 f.1 p (both_good s (report_in_lem y) q u)

module _ (xs ys : List Recording) (g : Each Given xs) (h : Each Given ys) (e : Each Fair xs) (f : Each Fair ys) where
  pub month_parts : month no_report (xs ++ ys) ≡ both (month no_report xs) (month no_report ys)
  month_parts =
      let m : Report = month no_report xs in
      let s = month_sized xs no_report (record { first = refl; second = refl }) in
      month_joined xs ys no_report
      ∙ ap (λ (r : Report). month r ys) (sym (both_empty m s.first s.second))
      ∙ month_apart ys m no_report h f (month_good xs no_report g e empty_good) empty_good

-- two parts, none of whose recordings is refused, and whose merge is not: none is refused in the whole, and it leaves what the merge does
module _ (xs ys : List Recording) (g : Each Given xs) (h : Each Given ys) (d : AllDone no_report xs) (c : AllDone no_report ys) (m : (merged (run_all no_report xs) (run_all no_report ys)).answer ≡ done) where
  first_then : Each Fair xs × (report_fit_lem (month no_report xs) ≡ true)
  first_then = done_then xs no_report g new_fit d

  second_then : Each Fair ys × (report_fit_lem (month no_report ys) ≡ true)
  second_then = done_then ys no_report h new_fit c

  whole : both (run_all no_report xs) (run_all no_report ys) ≡ month no_report (xs ++ ys)
  whole =
      ap (λ (r : Report). both r (run_all no_report ys)) (run_leaves xs no_report d) ∙ ap (both (month no_report xs)) (run_leaves ys no_report c)
      ∙ sym (month_parts xs ys g h first_then.0 second_then.0)

  pub parts_done : AllDone no_report (xs ++ ys)
  parts_done =
      let M = merge_facts (run_all no_report xs) (run_all no_report ys) m in
      done_when (xs ++ ys) no_report (each_joined Given xs ys g h) new_fit (each_joined Fair xs ys first_then.0 second_then.0)
      (ap report_fit_lem (sym whole) ∙ joined_fit (run_all no_report xs) (run_all no_report ys) M.first M.second M.room)

  pub parts_merged : (merged (run_all no_report xs) (run_all no_report ys)).report ≡ run_all no_report (xs ++ ys)
  parts_merged = (merge_facts (run_all no_report xs) (run_all no_report ys) m).leaves ∙ whole ∙ sym (run_leaves (xs ++ ys) no_report parts_done)

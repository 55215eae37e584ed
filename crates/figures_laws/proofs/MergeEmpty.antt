-- A report merged with an empty one is as it was; and a recording added is its own report merged. Assumes nothing.
use mathlib.Core.Path.{◌≡◌, refl, sym, ap, subst, ◌∙◌}
use mathlib.Core.Bool.{Bool, true, false, not, cond, ◌&&◌}
use mathlib.Core.List.{List}
use Prim.Native.Nat.{ℕ, ◌^◌, ◌<◌}
use native.Mathlib.Omega.{arith}
use borrow.Author.Tests.{le-ltb}
use lib.Dec.{eqb}
use lib.IntN.{ℤ}
use lib.ListN.{length, get_or-replicate}
use Rattle.numbers.proofs.Firsts.{length_firsts}
use Rattle.shaping.specs.Rate.{samples_in_lem, rate_of}
use Rattle.figures.specs.declared.Report.{Report}
use Rattle.figures.specs.Totals.{total_at, no_figures_lem, no_report, report_fit_lem, both, reports_pass}
use Rattle.figures.specs.FullList.{after_at, after, figures_of}
use Rattle.figures.specs.Answers.{done, Left, refused, joined, added, merged}
use Rattle.figures.proofs.TotalLaws.{fit_below}
use Rattle.figures.proofs.JoinLaws.{fit_48, fit_24}
use Rattle.figures.proofs.AddLaws.{at_rate, report_is, report_fit_law, new_fit}
use Rattle.figures_laws.specs.Month.{Given, Fair, report_in_lem, Recording, added_by}
use Rattle.figures_laws.specs.Typed.{TypedReport}
use Rattle.figures_laws.proofs.ReportSums.{plus_empty, empty_plus, same_report}
use Rattle.figures_laws.proofs.OneAdded.{none_pass}
use Rattle.figures_laws.proofs.MergeLaws.{merges, passes_swap}

-- ---- with an empty one
pub both_empty : (r : Report) → length r.at_48.totals ≡ 24 → length r.at_24.totals ≡ 24 → both r no_report ≡ r
unfolding both
both_empty r m n = same_report (plus_empty r.at_48 m) (plus_empty r.at_24 n)

pub empty_both : (r : Report) → length r.at_48.totals ≡ 24 → length r.at_24.totals ≡ 24 → both no_report r ≡ r
unfolding both
empty_both r m n = same_report (empty_plus r.at_48 m) (empty_plus r.at_24 n)

module _ (r : Report) (w : report_fit_lem r ≡ true) where
  room_empty : reports_pass r no_report ≡ false
  room_empty =
      none_pass r no_report
      (λ i l. rw (zeros_at i l) (omega (arith, fit_below r.at_48.totals (fit_48 r w) i l)))
      (λ i l. rw (zeros_at i l) (omega (arith, fit_below r.at_24.totals (fit_24 r w) i l)))
    where
      zeros_at : (i : ℕ) → i < 24 → total_at no_figures_lem.totals i ≡ 0
      zeros_at i l = get_or-replicate 24 i 0 0 l

-- "An empty run gives zeros and no gains": with it a fit report stays as it is
module _ (r : Report) (t : TypedReport r) (w : report_fit_lem r ≡ true) where
  pub merge_empty : merged r no_report ≡ record { answer = done; report = r }
  merge_empty =
      merges r no_report w new_fit (room_empty r w)
      ∙ ap (λ (k : Report). record { answer = done; report = k }) (both_empty r t.first.size t.second.size)

  pub empty_merge : merged no_report r ≡ record { answer = done; report = r }
  empty_merge =
      merges no_report r new_fit w (passes_swap r no_report (room_empty r w))
      ∙ ap (λ (k : Report). record { answer = done; report = k }) (empty_both r t.first.size t.second.size)

-- ---- a recording added is its own report merged
figures_size : (rate : ℕ) (xs : List ℤ) → length (figures_of (rate_of rate) xs).totals ≡ 24
unfolding figures_of after
figures_size rate xs = length_firsts (after_at no_figures_lem _ _) 24

sizes : (x : Recording) → (length (report_in_lem x).at_48.totals ≡ 24) × (length (report_in_lem x).at_24.totals ≡ 24)
sizes x =
    subst (λ (r : Report). (length r.at_48.totals ≡ 24) × (length r.at_24.totals ≡ 24)) (report_is x.rate x.samples (eqb (samples_in_lem x.rate) 10) refl) (by_side (eqb (samples_in_lem x.rate) 10))
  where
    by_side : (t : Bool)
        → (length (at_rate t (figures_of (rate_of x.rate) x.samples)).at_48.totals ≡ 24)
        × (length (at_rate t (figures_of (rate_of x.rate) x.samples)).at_24.totals ≡ 24)
    by_side true = (figures_size x.rate x.samples, refl)
    by_side false = (refl, figures_size x.rate x.samples)

module _ (x : Recording) (g : Given x) (f : Fair x) where
  its_fit : report_fit_lem (report_in_lem x) ≡ true
  its_fit = report_fit_law x.rate f.known x.samples g f.few

  pub adds_merged : (r : Report) → added_by r x ≡ merged r (report_in_lem x)
  unfolding added merged
  adds_merged r = rw (f.known, le-ltb (2 ^ 63) (length x.samples) f.few, its_fit) (by_fit (report_fit_lem r))
    where
      by_fit : (t : Bool) → cond (not t) (refused 1 r) (joined r (report_in_lem x)) ≡ cond (not (t && true)) (refused 1 r) (joined r (report_in_lem x))
      by_fit true = refl
      by_fit false = refl

  -- its own report is the one that a new report becomes by it
  pub own_report : added_by no_report x ≡ record { answer = done; report = report_in_lem x }
  own_report =
      let n = sizes x in
      adds_merged no_report ∙ merges no_report (report_in_lem x) new_fit its_fit (passes_swap (report_in_lem x) no_report (room_empty (report_in_lem x) its_fit))
      ∙ ap (λ (k : Report). record { answer = done; report = k }) (empty_both (report_in_lem x) n.0 n.1)

  -- at either of the two rates, whatever the report is, an unfit one too
  pub merge_adds : (r : Report) → added_by r x ≡ merged r (added_by no_report x).report
  merge_adds r = adds_merged r ∙ ap (λ (l : Left). merged r l.report) (sym own_report)

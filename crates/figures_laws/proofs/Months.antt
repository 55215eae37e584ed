-- A run of recordings: what it leaves, and that none is refused exactly where each is fair and the sum is fit. Assumes nothing.
use mathlib.Core.Path.{◌≡◌, refl, sym, ap, subst, ◌∙◌}
use mathlib.Core.Bool.{Bool, true, false, not, cond}
use mathlib.Core.List.{List, [], ◌∷◌}
use Prim.Native.Nat.{ℕ, ◌+◌, ◌<◌}
use native.Mathlib.Omega.{arith}
use lib.Dec.{eqb}
use lib.IntN.{ℤ}
use lib.ListN.{get_or-replicate}
use Rattle.numbers.proofs.Firsts.{firsts_at}
use Rattle.machine.specs.Runs.{Each}
use Rattle.shaping.specs.Rate.{Rate, rate_of}
use Rattle.demodulator_run.specs.Rules.{start}
use Rattle.listening.specs.Listener.{offers}
use Rattle.listening.specs.Verdict.{verdict}
use Rattle.listening.specs.Rules.{rules_at}
use Rattle.figures.specs.declared.Figures.{Figures}
use Rattle.figures.specs.declared.Report.{Report}
use Rattle.figures.specs.Totals.{total_at, no_figures_lem, report_fit_lem, both, reports_pass}
use Rattle.figures.specs.FullList.{number_at_lem, held_from, history_held, carrier_place, after_at, after, figures_of}
use Rattle.figures.specs.Answers.{Left}
use Rattle.figures.proofs.TotalLaws.{fit_below}
use Rattle.figures.proofs.JoinLaws.{fit_48, fit_24}
use Rattle.figures.proofs.AddLaws.{at_rate, report_is, report_fit_law}
use Rattle.figures_laws.specs.Month.{Given, Fair, report_in_lem, sum_over, Recording, month, AllDone, run_all, added_by, count_of, is_at48, is_at24, IsMonth}
use Rattle.figures_laws.proofs.OneAdded.{done_facts, goes_in, joined_fit, added_fit, both_48, both_24, none_pass}

-- ---- a recording's totals are the counts of its full list, at its own rate
pub figures_total : (R : Rate) (xs : List ℤ) (i : ℕ) → i < 24
    → total_at (figures_of R xs).totals i
    ≡ number_at_lem i (offers (rules_at R) verdict start xs) + cond (eqb i carrier_place) (held_from (rules_at R) history_held verdict start xs) 0
unfolding figures_of after
figures_total R xs i l =
    let at = firsts_at (after_at no_figures_lem (offers (rules_at R) verdict start xs) (held_from (rules_at R) history_held verdict start xs)) 24 i 0 l in
    let none : total_at no_figures_lem.totals i ≡ 0 = get_or-replicate 24 i 0 0 l in
    omega arith

module _ (x : Recording) (i : ℕ) (l : i < 24) where
  abbrev own : Figures
  own = figures_of (rate_of x.rate) x.samples

  own_48 : total_at (report_in_lem x).at_48.totals i ≡ cond (is_at48 x) (count_of i x) 0
  own_48 = sym (ap (λ (r : Report). total_at r.at_48.totals i) (report_is x.rate x.samples (is_at48 x) refl)) ∙ by_side (is_at48 x)
    where
      by_side : (t : Bool) → total_at (at_rate t own).at_48.totals i ≡ cond t (count_of i x) 0
      by_side true = figures_total (rate_of x.rate) x.samples i l
      by_side false = get_or-replicate 24 i 0 0 l

  own_24 : total_at (report_in_lem x).at_24.totals i ≡ cond (is_at24 x) (count_of i x) 0
  own_24 = sym (ap (λ (r : Report). total_at r.at_24.totals i) (report_is x.rate x.samples (is_at48 x) refl)) ∙ by_side (is_at48 x)
    where
      by_side : (t : Bool) → total_at (at_rate t own).at_24.totals i ≡ cond (not t) (count_of i x) 0
      by_side true = get_or-replicate 24 i 0 0 l
      by_side false = figures_total (rate_of x.rate) x.samples i l

-- ---- the totals of a month: those handed in and those of each recording
pub month_48 : (xs : List Recording) (r : Report) (i : ℕ) → i < 24
    → total_at (month r xs).at_48.totals i ≡ total_at r.at_48.totals i + sum_over is_at48 i xs
unfolding month sum_over
month_48 [] r i l = omega arith
month_48 (x ∷ xs) r i l =
    let later = month_48 xs (both r (report_in_lem x)) i l in
    let here = both_48 r (report_in_lem x) i l in
    let its = own_48 x i l in
    omega arith

pub month_24 : (xs : List Recording) (r : Report) (i : ℕ) → i < 24
    → total_at (month r xs).at_24.totals i ≡ total_at r.at_24.totals i + sum_over is_at24 i xs
unfolding month sum_over
month_24 [] r i l = omega arith
month_24 (x ∷ xs) r i l =
    let later = month_24 xs (both r (report_in_lem x)) i l in
    let here = both_24 r (report_in_lem x) i l in
    let its = own_24 x i l in
    omega arith

-- ---- what a run leaves
pub run_leaves : (xs : List Recording) (r : Report) → AllDone r xs → run_all r xs ≡ month r xs
unfolding AllDone run_all month
run_leaves [] r d = refl
run_leaves (x ∷ xs) r d = run_leaves xs (added_by r x).report d.1 ∙ ap (λ (s : Report). month s xs) (done_facts r x d.0).leaves

-- "Totals are exact whole numbers, equal to the sum over the recordings' full lists"
pub run_is_month : (xs : List Recording) (r : Report) → AllDone r xs → IsMonth r xs (run_all r xs)
run_is_month xs r d =
    let e = run_leaves xs r d in
    record {
      whole = e;
      at_48_lem = λ i l. ap (λ (s : Report). total_at s.at_48.totals i) e ∙ month_48 xs r i l;
      at_24_lem = λ i l. ap (λ (s : Report). total_at s.at_24.totals i) e ∙ month_24 xs r i l;
    }

-- where none is refused, the month's report is fit
pub done_then : (xs : List Recording) (r : Report) → Each Given xs → report_fit_lem r ≡ true → AllDone r xs
    → Each Fair xs × (report_fit_lem (month r xs) ≡ true)
unfolding Each AllDone month
done_then [] r g w d = (tt, w)
done_then (x ∷ xs) r g w d =
    let D = done_facts r x d.0 in
    let fit = ap report_fit_lem (sym D.leaves) ∙ added_fit r x g.0 d.0 in
    let later = done_then xs (both r (report_in_lem x)) g.1 fit (subst (λ (s : Report). AllDone s xs) D.leaves d.1) in
    ((D.fair, later.0), later.1)

-- and where it is, none is
pub done_when : (xs : List Recording) (r : Report) → Each Given xs → report_fit_lem r ≡ true → Each Fair xs → report_fit_lem (month r xs) ≡ true
    → AllDone r xs
unfolding Each AllDone month
done_when [] r g w f m = tt
done_when (x ∷ xs) r g w f m =
    let s : Report = both r (report_in_lem x) in
    let room : reports_pass r (report_in_lem x) ≡ false = none_pass r (report_in_lem x)
    (λ i l. omega (arith, month_48 xs s i l, both_48 r (report_in_lem x) i l, fit_below (month s xs).at_48.totals (fit_48 (month s xs) m) i l))
    (λ i l. omega (arith, month_24 xs s i l, both_24 r (report_in_lem x) i l, fit_below (month s xs).at_24.totals (fit_24 (month s xs) m) i l)) in
    let one = goes_in r x f.0 w room in
    let fit = joined_fit r (report_in_lem x) w (report_fit_law x.rate f.0.known x.samples g.0 f.0.few) room in
    (ap (λ (l : Left). l.answer) one, subst (λ (l : Left). AllDone l.report xs) (sym one) (done_when xs s g.1 fit f.1 m))

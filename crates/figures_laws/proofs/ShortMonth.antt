-- A month of at most 2^63 samples is never refused: each total is at most the number of samples. Assumes nothing.
use mathlib.Core.Path.{◌≡◌, refl, sym, ap, subst}
use mathlib.Core.Bool.{Bool, true, false}
use mathlib.Core.List.{List, [], ◌∷◌}
use Prim.Native.Nat.{ℕ, ◌+◌, ◌^◌, ◌≤◌, ◌<◌}
use native.Mathlib.Omega.{arith}
use lib.ListN.{length, get_or-replicate}
use Rattle.machine.specs.Runs.{Each}
use Rattle.shaping.specs.Rate.{rate_of}
use Rattle.demodulator_run.specs.Rules.{start}
use Rattle.listening.specs.Verdict.{verdict}
use Rattle.listening.specs.Rules.{rules_at}
use Rattle.figures.specs.declared.Report.{Report}
use Rattle.figures.specs.Totals.{total_at, no_figures_lem, no_report, report_fit_lem, both, reports_pass}
use Rattle.figures.specs.FullList.{history_held, figures_of}
use Rattle.figures.specs.Answers.{Left}
use Rattle.figures.proofs.FigureParts.{figures_most}
use Rattle.figures.proofs.AddLaws.{at_rate, report_is, report_fit_law, new_fit}
use Rattle.figures_laws.specs.Month.{Recording, report_in_lem, Given, Fair, AllDone, is_at48, lengths}
use Rattle.figures_laws.proofs.OneAdded.{goes_in, joined_fit, both_48, both_24, none_pass}

-- each total of either rate is n at most
record Below (n : ℕ) (r : Report) : Type 0 where
  below_48 : (i : ℕ) → i < 24 → total_at r.at_48.totals i ≤ n
  below_24 : (i : ℕ) → i < 24 → total_at r.at_24.totals i ≤ n

none_below : (n i : ℕ) → i < 24 → total_at no_figures_lem.totals i ≤ n
none_below n i l = let zero : total_at no_figures_lem.totals i ≡ 0 = get_or-replicate 24 i 0 0 l in omega arith

module _ (x : Recording) where
  own_below : (i : ℕ) → i < 24 → total_at (figures_of (rate_of x.rate) x.samples).totals i ≤ length x.samples
  unfolding figures_of
  own_below i l = figures_most (rules_at (rate_of x.rate)) history_held verdict start x.samples i l

  recording_below : Below (length x.samples) (report_in_lem x)
  recording_below = subst (Below (length x.samples)) (report_is x.rate x.samples (is_at48 x) refl) (by_side (is_at48 x))
    where
      by_side : (t : Bool) → Below (length x.samples) (at_rate t (figures_of (rate_of x.rate) x.samples))
      by_side true = record { below_48 = own_below; below_24 = none_below (length x.samples) }
      by_side false = record { below_48 = none_below (length x.samples); below_24 = own_below }

sum_fair : (xs : List Recording) (r : Report) (n : ℕ) → Each Given xs → Each Fair xs → report_fit_lem r ≡ true → Below n r
    → n + lengths xs ≤ 2 ^ 63 → AllDone r xs
unfolding Each AllDone lengths
sum_fair [] r n g f w b short = tt
sum_fair (x ∷ xs) r n g f w b short =
    let s : Report = both r (report_in_lem x) in
    let its = recording_below x in
    let room : reports_pass r (report_in_lem x) ≡ false = none_pass r (report_in_lem x)
    (λ i l. omega (arith, b.below_48 i l, its.below_48 i l)) (λ i l. omega (arith, b.below_24 i l, its.below_24 i l)) in
    let one = goes_in r x f.0 w room in
    let fit = joined_fit r (report_in_lem x) w (report_fit_law x.rate f.0.known x.samples g.0 f.0.few) room in
    let then : Below (n + length x.samples) s = record {
      below_48 = λ i l. omega (arith, both_48 r (report_in_lem x) i l, b.below_48 i l, its.below_48 i l);
      below_24 = λ i l. omega (arith, both_24 r (report_in_lem x) i l, b.below_24 i l, its.below_24 i l);
    } in (
      ap (λ (l : Left). l.answer) one,
      subst (λ (l : Left). AllDone l.report xs) (sym one) (sum_fair xs s (n + length x.samples) g.1 f.1 fit then (omega arith)),
    )

pub short_month_done : (xs : List Recording) → Each Given xs → Each Fair xs → lengths xs ≤ 2 ^ 63 → AllDone no_report xs
short_month_done xs g f short = sum_fair xs no_report 0 g f new_fit (record { below_48 = none_below 0; below_24 = none_below 0 }) (omega arith)

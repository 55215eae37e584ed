-- Recordings and reports that meet what the theorems ask: two recordings of 6,560 and 3,280 samples at the two rates, in either order, and
-- reports at the limits of gains and totals. Assumes nothing.
use Rattle.std.specs.Prelude.{Some}
use mathlib.Core.Path.{◌≡◌, refl}
use mathlib.Core.Bool.{true, false}
use mathlib.Core.List.Permᴰ
use mathlib.Core.List.{List, [], ◌∷◌}
use Prim.Native.Nat.{ℕ, zero, suc, ◌+◌, ◌-◌, ◌^◌, ◌≤◌}
use native.Mathlib.Omega.{arith}
use lib.Dec.{lit<, lit≤}
use lib.IntN.{pos}
use lib.ListN.{replicate, length-replicate}
use lib.Ieee.{Float, binary32, of_bits, lt, le}
use lib.Ieee.Bits.{of_bits-fits}
use mir.Syntax.{w16}
use mir.Val.{SFits}
use Rattle.numbers.specs.Below.{all_below}
use Rattle.numbers.specs.Firsts.{firsts}
use Rattle.machine.specs.Runs.{Each}
use Rattle.shaping.specs.Rate.{rate_of}
use Rattle.search.specs.declared.Candidate.TheVariants.{Nothing}
use Rattle.search.specs.declared.Control.{Control}
use Rattle.search.specs.Turn.{sampled}
use Rattle.figures.specs.declared.Figures.{Figures}
use Rattle.figures.specs.declared.Report.{Report}
use Rattle.figures.specs.Totals.{total_at, no_figures_lem, no_report, totals_fit, report_fit_lem, would_pass, summed, lesser, greater, plus, both}
use Rattle.figures.specs.FullList.{figures_of}
use Rattle.figures.specs.Answers.{done, merged, joined}
use Rattle.figures.proofs.AddLaws.{new_fit}
use Rattle.figures_laws.specs.Month.{Recording, added_by, Given, Fair, AllDone, run_all, IsMonth, sum_to, lengths}
use Rattle.figures_laws.specs.Typed.{Typed, TypedReport, AllMerged}
use Rattle.figures_laws.proofs.OneAdded.{added_fit}
use Rattle.figures_laws.proofs.Months.{run_is_month}
use Rattle.figures_laws.proofs.AnyOrder.{any_order, done_any_order}
use Rattle.figures_laws.proofs.ShortMonth.{short_month_done}
use Rattle.figures_laws.proofs.MergeLaws.{merge_swap}
use Rattle.figures_laws.proofs.MergeThree.{merge_three}
use Rattle.figures_laws.proofs.MergeEmpty.{merge_empty, merge_adds}
use Rattle.figures_laws.proofs.AgesCounted.{ages_all}
use Rattle.figures_laws.proofs.TimerOutlasts.{HeldBy, sampled_held}

-- ---- two recordings
abbrev hum : ℕ → ℕ → Recording
hum rate n = record { rate = rate; samples = replicate n (pos 1) }

each_hum : (n : ℕ) → Each (SFits w16) (replicate n (pos 1))
unfolding Each
each_hum zero = tt
each_hum (suc n) = (record { sfits = lit< tt }, each_hum n)

hum_48 : Fair (hum 48000 6560)
hum_48 = record { known = refl; few = omega (arith, length-replicate 6560 (pos 1)) }

hum_24 : Fair (hum 24000 3280)
hum_24 = record { known = refl; few = omega (arith, length-replicate 3280 (pos 1)) }

abbrev two : List Recording
two = hum 48000 6560 ∷ (hum 24000 3280 ∷ [])

abbrev turned : List Recording
turned = hum 24000 3280 ∷ (hum 48000 6560 ∷ [])

two_given : Each Given two
unfolding Each
two_given = (each_hum 6560, (each_hum 3280, tt))

two_fair : Each Fair two
unfolding Each
two_fair = (hum_48, (hum_24, tt))

two_short : lengths two ≤ 2 ^ 63
unfolding lengths
two_short = omega (arith, length-replicate 6560 (pos 1), length-replicate 3280 (pos 1))

two_done : AllDone no_report two
two_done = short_month_done two two_given two_fair two_short

none_typed : Typed no_figures_lem
none_typed = record { size = refl; low = tt; high = tt }

empty_typed : TypedReport no_report
empty_typed = record { first = none_typed; second = none_typed }

run_is_month_meets : IsMonth no_report two (run_all no_report two)
run_is_month_meets = run_is_month two no_report two_done

done_any_order_meets : AllDone no_report turned
done_any_order_meets = done_any_order two turned (Permᴰ.swap refl refl) two_given no_report empty_typed new_fit two_done

any_order_meets : run_all no_report two ≡ run_all no_report turned
any_order_meets = any_order two turned (Permᴰ.swap refl refl) two_given no_report empty_typed new_fit two_done

first_done : (added_by no_report (hum 48000 6560)).answer ≡ done
unfolding AllDone
first_done = two_done.0

added_fit_meets : report_fit_lem (added_by no_report (hum 48000 6560)).report ≡ true
added_fit_meets = added_fit no_report (hum 48000 6560) (each_hum 6560) first_done

ages_all_meets : sum_to (λ (a : ℕ). total_at (figures_of (rate_of 24000) (replicate 3280 (pos 1))).totals (12 + a)) 11
    ≡ sum_to (λ (i : ℕ). total_at (figures_of (rate_of 24000) (replicate 3280 (pos 1))).totals i) 4
ages_all_meets = ages_all 24000 refl (replicate 3280 (pos 1)) (each_hum 3280)

-- ---- reports with gains: the smallest and the largest that there are, and totals of which two sum to the limit
abbrev with_gains : ℕ → ℕ → Figures
with_gains n bits = record { totals = replicate 24 n; smallest = Some (of_bits binary32 bits); largest = Some (of_bits binary32 bits) }

typed_gains : (n bits : ℕ) → Typed (with_gains n bits)
typed_gains n bits = record { size = length-replicate 24 n; low = of_bits-fits binary32 bits; high = of_bits-fits binary32 bits }

abbrev faint : Report
faint = record { at_48 = with_gains 1 0x4180_0000; at_24 = no_figures_lem }

abbrev loud : Report
loud = record { at_48 = with_gains (2 ^ 63 - 1) 0x4974_2400; at_24 = with_gains 7 0x4180_0000 }

faint_typed : TypedReport faint
faint_typed = record { first = typed_gains 1 0x4180_0000; second = none_typed }

loud_typed : TypedReport loud
loud_typed = record { first = typed_gains (2 ^ 63 - 1) 0x4974_2400; second = typed_gains 7 0x4180_0000 }

faint_fit : report_fit_lem faint ≡ true
unfolding report_fit_lem totals_fit all_below of_bits le
faint_fit = refl

loud_fit : report_fit_lem loud ≡ true
unfolding report_fit_lem totals_fit all_below of_bits le
loud_fit = refl

merges_at_the_limit : (merged faint loud).answer ≡ done
unfolding merged joined report_fit_lem totals_fit would_pass all_below of_bits le
merges_at_the_limit = refl

merge_swap_meets : merged faint loud ≡ merged loud faint
merge_swap_meets = merge_swap faint loud faint_typed loud_typed merges_at_the_limit

merge_empty_meets : merged loud no_report ≡ record { answer = done; report = loud }
merge_empty_meets = merge_empty loud loud_typed loud_fit

-- three, of which one is empty
then_empty : (merged (merged faint loud).report no_report).answer ≡ done
unfolding merged joined report_fit_lem totals_fit would_pass all_below of_bits le lt both plus summed firsts lesser greater
then_empty = refl

merge_three_meets : AllMerged faint loud no_report (both (both faint loud) no_report)
merge_three_meets = merge_three faint loud no_report faint_typed loud_typed empty_typed merges_at_the_limit then_empty

merge_adds_meets : added_by loud (hum 48000 6560) ≡ merged loud (added_by no_report (hum 48000 6560)).report
merge_adds_meets = merge_adds (hum 48000 6560) (each_hum 6560) hum_48 loud

-- ---- a control one sample before its frame is due, with the least timer that outlasts the wait
abbrev waiting : Control
waiting = record { candidate = Nothing; wait = Some (record { left = 1; age = 1; replaced = false }); dcd = Some 2002; owed = false; sample = 2000 }

abbrev silent : ℕ → Float
silent i = of_bits binary32 0

sampled_held_meets : HeldBy 10 (lit≤ tt) (lit≤ tt) silent (sampled 10 silent waiting)
sampled_held_meets = sampled_held 10 (lit≤ tt) (lit≤ tt) silent waiting (lit< tt) (lit≤ tt)

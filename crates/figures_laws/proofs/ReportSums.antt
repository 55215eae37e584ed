-- Two figures or reports in one, in either order; three in either grouping; with an empty one. Assumes nothing.
use Rattle.std.specs.Prelude.{Float, Option, Some}
use mathlib.Core.Path.{◌≡◌, refl, sym, ap, ◌∙◌}
use mathlib.Core.Bool.{true}
use mathlib.Core.List.{List, [], ◌∷◌}
use Prim.Native.Nat.{ℕ, ◌<◌}
use native.Mathlib.Omega.{arith}
use lib.ListN.{length, get_or-replicate}
use lib.Seq.{ext_get_or}
use Rattle.numbers.specs.Firsts.{firsts}
use Rattle.numbers.proofs.Firsts.{firsts_same, firsts_at, length_firsts}
use Rattle.machine.specs.Runs.{Each}
use Rattle.listening.specs.Listener.{Listed}
use Rattle.figures.specs.declared.Figures.{Figures}
use Rattle.figures.specs.declared.Report.{Report}
use Rattle.figures.specs.Totals.{total_at, no_figures_lem, no_report, gains_fit, summed_at, summed, lesser, greater, plus, both, totals_fit, figures_fit, report_fit_lem}
use Rattle.figures.specs.FullList.{least_from, greatest_from}
use Rattle.figures.proofs.AfterLaws.{same_figures, lesser_none, greater_none}
use Rattle.figures.proofs.OfferGains.{GainWithin, right_fit}
use Rattle.figures_laws.specs.Typed.{Good, GoodReport, Typed, TypedReport, GoodGain}
use Rattle.figures_laws.proofs.GainSingle.{Single}
use Rattle.figures_laws.proofs.GainOrder.{gains_good, fit_positive, lesser_swap, greater_swap, lesser_good, greater_good, lesser_three, greater_three}
use Rattle.figures_laws.proofs.OneAdded.{first_fit, second_fit}

-- ---- totals
pub summed_swap : (a b : List ℕ) → summed a b ≡ summed b a
unfolding summed
summed_swap a b = firsts_same (summed_at a b) (summed_at b a) 24 (λ i l. omega arith)

pub summed_three : (a b c : List ℕ) → summed (summed a b) c ≡ summed a (summed b c)
unfolding summed
summed_three a b c = firsts_same _ _ 24 (λ i l. rw (firsts_at (summed_at a b) 24 i 0 l, firsts_at (summed_at b c) 24 i 0 l) (omega arith))

-- 24 of them, as the type says
pub summed_zeros : (a : List ℕ) → length a ≡ 24 → summed a no_figures_lem.totals ≡ a
unfolding summed
summed_zeros a size =
    let long = length_firsts (summed_at a no_figures_lem.totals) 24 in
    ext_get_or 0 (firsts (summed_at a no_figures_lem.totals) 24) a (long ∙ sym size) (λ i l.
    let inside : i < 24 = omega arith in
    let none : total_at no_figures_lem.totals i ≡ 0 = get_or-replicate 24 i 0 0 inside in
    let sum : summed_at a no_figures_lem.totals i ≡ total_at a i = omega arith in
    firsts_at (summed_at a no_figures_lem.totals) 24 i 0 inside ∙ sum)

-- ---- figures and reports
pub plus_swap : (a b : Figures) → Good a → Good b → plus a b ≡ plus b a
unfolding plus
plus_swap a b p q =
    same_figures (summed_swap a.totals b.totals) (lesser_swap a.smallest b.smallest p.small q.small) (greater_swap a.largest b.largest p.large q.large)

pub plus_three : (a b c : Figures) → Good a → Good b → Good c → plus (plus a b) c ≡ plus a (plus b c)
unfolding plus
plus_three a b c p q r =
    same_figures (summed_three a.totals b.totals c.totals)
    (lesser_three a.smallest b.smallest p.small q.small c.smallest r.small)
    (greater_three a.largest b.largest p.large q.large c.largest r.large)

pub plus_good : (a b : Figures) → Good a → Good b → Good (plus a b)
unfolding plus
plus_good a b p q = record { small = lesser_good a.smallest b.smallest p.small q.small; large = greater_good a.largest b.largest p.large q.large }

pub plus_empty : (a : Figures) → length a.totals ≡ 24 → plus a no_figures_lem ≡ a
unfolding plus
plus_empty a size = same_figures (summed_zeros a.totals size) (lesser_none a.smallest) (greater_none a.largest)

pub empty_plus : (a : Figures) → length a.totals ≡ 24 → plus no_figures_lem a ≡ a
unfolding plus lesser greater
empty_plus a size = same_figures (summed_swap no_figures_lem.totals a.totals ∙ summed_zeros a.totals size) refl refl

pub none_good : Good no_figures_lem
none_good = record { small = tt; large = tt }

pub empty_good : GoodReport no_report
empty_good = record { first = none_good; second = none_good }

pub same_report : {a b c d : Figures} → a ≡ b → c ≡ d → ◌≡◌ {A = Report} (record { at_48 = a; at_24 = c }) (record { at_48 = b; at_24 = d })
same_report p q = cc

module _ (a b : Report) (p : GoodReport a) (q : GoodReport b) where
  pub both_swap : both a b ≡ both b a
  unfolding both
  both_swap =
      same_report (plus_swap a.at_48 b.at_48 p.first q.first) (plus_swap a.at_24 b.at_24 p.second q.second)

  pub both_good : GoodReport (both a b)
  unfolding both
  both_good = record { first = plus_good a.at_48 b.at_48 p.first q.first; second = plus_good a.at_24 b.at_24 p.second q.second }

  module _ (c : Report) (r : GoodReport c) where
    pub both_three : both (both a b) c ≡ both a (both b c)
    unfolding both
    both_three =
        same_report (plus_three a.at_48 b.at_48 c.at_48 p.first q.first r.first)
        (plus_three a.at_24 b.at_24 c.at_24 p.second q.second r.second)

-- two that are added one after the other
pub both_turned : (r a b : Report) → GoodReport r → GoodReport a → GoodReport b → both (both r a) b ≡ both (both r b) a
both_turned r a b p q s = both_three r a p q b s ∙ ap (both r) (both_swap a b q s) ∙ sym (both_three r b p s a q)

-- ---- gains of offers
pub leasts_good : (list : List Listed) → Each GainWithin list → Each Single list → (g : Option Float) → GoodGain g → GoodGain (least_from g list)
unfolding least_from Each
leasts_good [] w s g p = p
leasts_good (o ∷ list) w s g p =
    leasts_good list w.1 s.1 (lesser g (Some o.due.gain)) (lesser_good g (Some o.due.gain) p (record { single = s.0; above = fit_positive o.due.gain w.0 }))

pub greatests_good : (list : List Listed) → Each GainWithin list → Each Single list → (g : Option Float) → GoodGain g → GoodGain (greatest_from g list)
unfolding greatest_from Each
greatests_good [] w s g p = p
greatests_good (o ∷ list) w s g p =
    greatests_good list w.1 s.1 (greater g (Some o.due.gain)) (greater_good g (Some o.due.gain) p (record { single = s.0; above = fit_positive o.due.gain w.0 }))

-- ---- a fit report of its type
typed_figures : (f : Figures) → Typed f → figures_fit f ≡ true → Good f
typed_figures f t e =
    let g = gains_good f.smallest f.largest (right_fit (totals_fit f.totals) (gains_fit f.smallest f.largest) e) t.low t.high in
    record { small = g.0; large = g.1 }

pub typed_good : (r : Report) → TypedReport r → report_fit_lem r ≡ true → GoodReport r
typed_good r t e = record { first = typed_figures r.at_48 t.first (first_fit r e); second = typed_figures r.at_24 t.second (second_fit r e) }

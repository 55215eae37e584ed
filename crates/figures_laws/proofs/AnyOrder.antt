-- "Where none is refused their order changes nothing", gains too; and if none is refused in one order, none is in any other. Assumes nothing.
use Rattle.std.specs.Prelude.{None}
use mathlib.Core.Path.{◌≡◌, refl, sym, ap, subst, ◌∙◌}
use mathlib.Core.Bool.{Bool, true, false}
use mathlib.Core.List.{List, Permᴰ}
use Prim.Native.Nat.{ℕ}
use lib.Dec.{eqb}
use lib.IntN.{ℤ}
use mir.Syntax.{w16}
use mir.Val.{SFits}
use Rattle.machine.specs.Runs.{Each}
use Rattle.shaping.specs.Rate.{Rate, rate_fit, samples_in_lem, rate_of}
use Rattle.shaping.proofs.RateFacts.{rate_facts}
use Rattle.demodulator_run.specs.Rules.{start}
use Rattle.demodulator_run.specs.Run.{fresh_at}
use Rattle.demodulator_run.proofs.Whole.{stands_start}
use Rattle.listening.specs.Listener.{offers}
use Rattle.listening.specs.Verdict.{verdict}
use Rattle.listening.specs.Rules.{rules_at}
use Rattle.figures.specs.declared.Report.{Report}
use Rattle.figures.specs.Totals.{report_fit_lem, both}
use Rattle.figures.specs.FullList.{after, figures_of}
use Rattle.figures.proofs.OfferGains.{offers_within}
use Rattle.figures.proofs.AddLaws.{at_rate, report_is}
use Rattle.figures_laws.specs.Month.{Given, Fair, report_in_lem, Recording, month, AllDone, run_all}
use Rattle.figures_laws.specs.Typed.{Good, GoodReport, TypedReport}
use Rattle.figures_laws.proofs.GainSingle.{offers_single}
use Rattle.figures_laws.proofs.ReportSums.{none_good, both_good, both_turned, leasts_good, greatests_good, typed_good}
use Rattle.figures_laws.proofs.Months.{run_leaves, done_then, done_when}

-- ---- a recording's gains
figures_good : (rate : ℕ) → rate_fit rate ≡ true → (xs : List ℤ) → Each (SFits w16) xs → Good (figures_of (rate_of rate) xs)
unfolding figures_of after
figures_good rate fit xs g =
    let R : Rate = rate_of rate in
    let w = offers_within R (rate_facts rate fit) verdict xs g (fresh_at R) start (stands_start R (rate_facts rate fit)) in
    let s = offers_single R verdict xs start tt in
    record { small = leasts_good (offers (rules_at R) verdict start xs) w s None tt; large = greatests_good (offers (rules_at R) verdict start xs) w s None tt }

pub report_good : (x : Recording) → Given x → Fair x → GoodReport (report_in_lem x)
report_good x g f =
    subst GoodReport (report_is x.rate x.samples (eqb (samples_in_lem x.rate) 10) refl) (by_side (eqb (samples_in_lem x.rate) 10))
  where
    by_side : (t : Bool) → GoodReport (at_rate t (figures_of (rate_of x.rate) x.samples))
    by_side true = record { first = figures_good x.rate f.known x.samples g; second = none_good }
    by_side false = record { first = none_good; second = figures_good x.rate f.known x.samples g }

-- ---- any order
each_order : {A : Type 0} (P : A → Type 0) (xs ys : List A) → Permᴰ xs ys → Each P xs → Each P ys
unfolding Each
each_order P xs ys Permᴰ.nil e = e
each_order P xs ys (Permᴰ.cons {l₁ = l} {l₂ = k} q d) e = (subst P q e.0, each_order P l k d e.1)
each_order P xs ys (Permᴰ.swap q s) e = (subst P s e.1.0, (subst P q e.0, e.1.1))
each_order P xs ys (Permᴰ.trans {l₂ = k} d c) e = each_order P k ys c (each_order P xs k d e)

pub month_order : (xs ys : List Recording) → Permᴰ xs ys → Each Given xs → Each Fair xs → (r : Report) → GoodReport r
    → month r xs ≡ month r ys
unfolding Each month
month_order xs ys Permᴰ.nil g f r p = refl
month_order xs ys (Permᴰ.cons {a = x} {l₁ = l} {l₂ = k} q d) g f r p =
    month_order l k d g.1 f.1 (both r (report_in_lem x)) (both_good r (report_in_lem x) p (report_good x g.0 f.0)) ∙ ap (λ (y : Recording). month (both r (report_in_lem y)) k) q
month_order xs ys (Permᴰ.swap {a = x} {b = y} {a' = u} {l = l} q s) g f r p =
    ap (λ (m : Report). month m l) (both_turned r (report_in_lem x) (report_in_lem y) p (report_good x g.0 f.0) (report_good y g.1.0 f.1.0))
    ∙ ap (λ (z : Recording). month (both (both r (report_in_lem z)) (report_in_lem x)) l) s
    ∙ ap (λ (z : Recording). month (both (both r (report_in_lem u)) (report_in_lem z)) l) q
month_order xs ys (Permᴰ.trans {l₂ = k} d c) g f r p =
    month_order xs k d g f r p ∙ month_order k ys c (each_order Given xs k d g) (each_order Fair xs k d f) r p

-- "where none is refused their order changes nothing": from any fit report, whatever was added to it before
module _ (xs ys : List Recording) (order : Permᴰ xs ys) (g : Each Given xs) (r : Report) (t : TypedReport r) (w : report_fit_lem r ≡ true) (d : AllDone r xs) where
  pub done_any_order : AllDone r ys
  done_any_order =
      let then = done_then xs r g w d in
      done_when ys r (each_order Given xs ys order g) w (each_order Fair xs ys order then.0)
      (ap report_fit_lem (sym (month_order xs ys order g then.0 r (typed_good r t w))) ∙ then.1)

  pub any_order : run_all r xs ≡ run_all r ys
  any_order =
      run_leaves xs r d ∙ month_order xs ys order g (done_then xs r g w d).0 r (typed_good r t w) ∙ sym (run_leaves ys r done_any_order)

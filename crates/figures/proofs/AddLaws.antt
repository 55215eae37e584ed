-- Adding a recording: each refusal, and what is joined. Assumes nothing.
use Rattle.std.specs.Prelude.{Err}
use mathlib.Core.Path.{◌≡◌, refl, sym, ap, ◌∙◌, subst}
use mathlib.Core.Bool.{Bool, true, false, cond, ◌&&◌}
use mathlib.Core.List.{List}
use Prim.Native.Nat.{ℕ, ◌^◌, ◌≤◌, ◌<◌}
use borrow.Author.Tests.{lt-ltb, le-ltb, eq-eqb, ne_eqb}
use lib.Dec.{eqb}
use lib.IntN.{ℤ}
use lib.ListN.{length}
use mir.Syntax.{w16}
use mir.Val.{SFits}
use Rattle.numbers.specs.Below.{all_below}
use Rattle.numbers.specs.Sixteen.{AllSixteen}
use Rattle.machine.specs.Runs.{Each}
use Rattle.shaping.specs.Rate.{rate_fit, samples_in_lem, rate_of}
use Rattle.protocol.specs.declared.Refusal.TheVariants.{RecordUnfit, CountAtItsEnd, WrongRate}
use Rattle.demodulator.specs.Record.{fresh}
use Rattle.demodulator_run.proofs.Sixteen.{each_sixteen}
use Rattle.figures.specs.declared.Figures.{Figures}
use Rattle.figures.specs.declared.Report.{Report}
use Rattle.figures.specs.declared.AfterAdd.{AfterAdd}
use Rattle.figures.specs.Totals.{no_figures_lem, no_report, totals_fit, figures_fit, report_fit_lem}
use Rattle.figures.specs.FullList.{record_figures, figures_of}
use Rattle.figures.specs.Answers.{Left, joined, report_of, added, Says, AddSays, JoinSays}
use Rattle.figures.proofs.RulesAgree.{figures_agree, figures_fit_lem}

pub both_are : (a b : Bool) → a ≡ true → b ≡ true → a && b ≡ true
both_are a b p q = rw (p, q)

module _ (r : Report) (rate : ℕ) (xs : List ℤ) where
  pub added_15 : rate_fit rate ≡ false → Says (added r rate xs) (record { answer = Err WrongRate; report = r })
  unfolding added
  added_15 e = record { answers = rw e; leaves = rw e }

  module _ (fit : rate_fit rate ≡ true) where
    pub added_1 : report_fit_lem r ≡ false → Says (added r rate xs) (record { answer = Err RecordUnfit; report = r })
    unfolding added
    added_1 e = record { answers = rw (fit, e); leaves = rw (fit, e) }

    module _ (whole : report_fit_lem r ≡ true) where
      pub added_5 : 2 ^ 63 < length xs → Says (added r rate xs) (record { answer = Err CountAtItsEnd; report = r })
      unfolding added
      added_5 l = record { answers = rw (fit, whole, lt-ltb (2 ^ 63) (length xs) l); leaves = rw (fit, whole, lt-ltb (2 ^ 63) (length xs) l) }

      pub added_joined : length xs ≤ 2 ^ 63 → added r rate xs ≡ joined r (report_of rate xs)
      unfolding added
      added_joined l = rw (fit, whole, le-ltb (2 ^ 63) (length xs) l)

pub said_joined : (r more more' : Report) (a : AfterAdd) (l : Left) → more' ≡ more → l ≡ joined r more → Says (joined r more') a → Says l a
said_joined r more more' a l e q s = subst (λ (k : Left). Says k a) (ap (joined r) e ∙ sym q) s

-- ---- the report of a recording
abbrev pub at_rate : Bool → Figures → Report
at_rate t f = cond {A = Report} t (record { at_48 = f; at_24 = no_figures_lem }) (record { at_48 = no_figures_lem; at_24 = f })

pub report_is : (rate : ℕ) (xs : List ℤ) (t : Bool) → eqb (samples_in_lem rate) 10 ≡ t → at_rate t (figures_of (rate_of rate) xs) ≡ report_of rate xs
unfolding report_of
report_is rate xs t e = ap (λ (b : Bool). at_rate b (figures_of (rate_of rate) xs)) (sym e)

module _ (rate : ℕ) (xs : List ℤ) (f none : Figures) (is : f ≡ figures_of (rate_of rate) xs) (empty : none ≡ no_figures_lem) where
  pub report_48 : eqb (samples_in_lem rate) 10 ≡ true → ◌≡◌ {A = Report} (record { at_48 = f; at_24 = none }) (report_of rate xs)
  report_48 e = ap (λ (g : Figures). record { at_48 = f; at_24 = g }) empty ∙ ap (at_rate true) is ∙ report_is rate xs true e

  pub report_24 : eqb (samples_in_lem rate) 10 ≡ false → ◌≡◌ {A = Report} (record { at_48 = none; at_24 = f }) (report_of rate xs)
  report_24 e = ap (λ (g : Figures). record { at_48 = g; at_24 = f }) empty ∙ ap (at_rate false) is ∙ report_is rate xs false e

pub none_fit : figures_fit no_figures_lem ≡ true
unfolding totals_fit all_below
none_fit = refl

pub new_fit : report_fit_lem no_report ≡ true
unfolding report_fit_lem
new_fit = both_are (figures_fit no_figures_lem) (figures_fit no_figures_lem) none_fit none_fit

pub report_fit_law : (rate : ℕ) → rate_fit rate ≡ true → (xs : List ℤ) → Each (SFits w16) xs → length xs ≤ 2 ^ 63
    → report_fit_lem (report_of rate xs) ≡ true
report_fit_law rate fit xs g few = ap report_fit_lem (sym (report_is rate xs (eqb (samples_in_lem rate) 10) refl)) ∙ by_test (eqb (samples_in_lem rate) 10)
  where
    by_test : (t : Bool) → report_fit_lem (at_rate t (figures_of (rate_of rate) xs)) ≡ true
    by_test true =
        unfold report_fit_lem in both_are (figures_fit (figures_of (rate_of rate) xs)) (figures_fit no_figures_lem) (figures_fit_lem rate fit xs g few) none_fit
    by_test false =
        unfold report_fit_lem in both_are (figures_fit no_figures_lem) (figures_fit (figures_of (rate_of rate) xs)) none_fit (figures_fit_lem rate fit xs g few)

-- ---- a recording that was heard
module _ (rate : ℕ) (xs : List ℤ) (f none : Figures) (fit : rate_fit rate ≡ true) (few : length xs ≤ 2 ^ 63) (each : AllSixteen xs)
    (is : f ≡ record_figures no_figures_lem (fresh rate) xs) (empty : none ≡ no_figures_lem) where
  figures_are : f ≡ figures_of (rate_of rate) xs
  figures_are = is ∙ figures_agree rate fit xs (each_sixteen xs each)

  heard_48 : samples_in_lem rate ≡ 10 → ◌≡◌ {A = Report} (record { at_48 = f; at_24 = none }) (report_of rate xs)
  heard_48 e = report_48 rate xs f none figures_are empty (eq-eqb _ 10 e)

  heard_24 : (samples_in_lem rate ≡ 10 → ⊥) → ◌≡◌ {A = Report} (record { at_48 = none; at_24 = f }) (report_of rate xs)
  heard_24 e = report_24 rate xs f none figures_are empty (ne_eqb _ 10 e)

  whole_there : report_fit_lem (report_of rate xs) ≡ true
  whole_there = report_fit_law rate fit xs (each_sixteen xs each) few

  pub heard_fit_48 : samples_in_lem rate ≡ 10 → report_fit_lem (record { at_48 = f; at_24 = none }) ≡ true
  heard_fit_48 e = ap report_fit_lem (heard_48 e) ∙ whole_there

  pub heard_fit_24 : (samples_in_lem rate ≡ 10 → ⊥) → report_fit_lem (record { at_48 = none; at_24 = f }) ≡ true
  heard_fit_24 e = ap report_fit_lem (heard_24 e) ∙ whole_there

  module _ (r : Report) (whole : report_fit_lem r ≡ true) (a : AfterAdd) where
    pub said_48 : samples_in_lem rate ≡ 10 → JoinSays r (record { at_48 = f; at_24 = none }) a → AddSays r rate xs a
    said_48 e s = said_joined r (report_of rate xs) _ a (added r rate xs) (heard_48 e) (added_joined r rate xs fit whole few) s

    pub said_24 : (samples_in_lem rate ≡ 10 → ⊥) → JoinSays r (record { at_48 = none; at_24 = f }) a → AddSays r rate xs a
    said_24 e s = said_joined r (report_of rate xs) _ a (added r rate xs) (heard_24 e) (added_joined r rate xs fit whole few) s

-- what `Report::add` is proved by
pub ruleset adding = (added_15, added_1, added_5, heard_fit_48, heard_fit_24, said_48, said_24)

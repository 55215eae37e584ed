-- Two fit reports in one. Assumes nothing.
use Rattle.std.specs.Prelude.{Ok, Err}
use mathlib.Core.Path.{◌≡◌}
use mathlib.Core.Bool.{true, false, ◌&&◌}
use lib.Ieee.Bits.{is_true}
use lib.Ieee.Fits.{and_l, and_r}
use Rattle.numbers.proofs.Tests.{holds}
use Rattle.protocol.specs.declared.Refusal.TheVariants.{RecordUnfit, TotalTooLarge}
use Rattle.figures.specs.declared.Figures.{Figures}
use Rattle.figures.specs.declared.Report.{Report}
use Rattle.figures.specs.declared.AfterAdd.{AfterAdd}
use Rattle.figures.specs.Totals.{gains_fit, totals_fit, figures_fit, report_fit_lem, would_pass, plus, both}
use Rattle.figures.specs.Answers.{joined, merged, Says}

pub fit_48 : (r : Report) → report_fit_lem r ≡ true → totals_fit r.at_48.totals ≡ true
unfolding report_fit_lem
fit_48 r e =
    is_true _ (and_l (totals_fit r.at_48.totals) (gains_fit r.at_48.smallest r.at_48.largest) (and_l (figures_fit r.at_48) (figures_fit r.at_24) (holds e)))

pub fit_24 : (r : Report) → report_fit_lem r ≡ true → totals_fit r.at_24.totals ≡ true
unfolding report_fit_lem
fit_24 r e =
    is_true _ (and_l (totals_fit r.at_24.totals) (gains_fit r.at_24.smallest r.at_24.largest) (and_r (figures_fit r.at_48) (figures_fit r.at_24) (holds e)))

module _ (a b : Report) where
  pub first_passes : would_pass a.at_48.totals b.at_48.totals ≡ true → Says (joined a b) (record { answer = Err TotalTooLarge; report = a })
  unfolding joined
  first_passes e = record { answers = rw e; leaves = rw e }

  module _ (one : would_pass a.at_48.totals b.at_48.totals ≡ false) where
    pub second_passes : would_pass a.at_24.totals b.at_24.totals ≡ true → Says (joined a b) (record { answer = Err TotalTooLarge; report = a })
    unfolding joined
    second_passes e = record { answers = rw (one, e); leaves = rw (one, e) }

    pub neither_passes : would_pass a.at_24.totals b.at_24.totals ≡ false → (x y : Figures) → x ≡ plus a.at_48 b.at_48
        → y ≡ plus a.at_24 b.at_24
        → Says (joined a b) (record { answer = Ok tt; report = record { at_48 = x; at_24 = y } })
    unfolding joined both
    neither_passes e x y p q = record { answers = rw (one, e); leaves = rw (one, e, p, q) }

-- ---- a merge
pub merged_unfit : (a b : Report) → (report_fit_lem a && report_fit_lem b) ≡ false → Says (merged a b) (record { answer = Err RecordUnfit; report = a })
unfolding merged
merged_unfit a b e = record { answers = rw e; leaves = rw e }

pub merged_fit : (a b : Report) (r : AfterAdd) → (report_fit_lem a && report_fit_lem b) ≡ true → Says (joined a b) r → Says (merged a b) r
unfolding merged
merged_fit a b r e s = record { answers = rw e s.answers; leaves = rw e s.leaves }

pub fit_both : (a b : Report) → (report_fit_lem a && report_fit_lem b) ≡ true → (report_fit_lem a ≡ true) × (report_fit_lem b ≡ true)
fit_both a b e = (is_true _ (and_l (report_fit_lem a) (report_fit_lem b) (holds e)), is_true _ (and_r (report_fit_lem a) (report_fit_lem b) (holds e)))

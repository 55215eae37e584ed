-- Document 02 l): what adding a recording answers, and the report after it; two reports merged; and what the functions promise. Assumes nothing.
use Rattle.protocol.specs.declared.Refusal.{Refusal}
use Rattle.std.specs.Prelude.{◌≡◌, not, cond, ◌&&◌, List, ℕ, ◌^◌, eqb, ltb, ℤ, length, Result, Ok, Err}
use Rattle.shaping.specs.Rate.{rate_fit, samples_in_lem, rate_of}
use Rattle.protocol.specs.Refusals.{PaperRefusal, bare, on_paper}
use Rattle.figures.specs.declared.Report.{Report}
use Rattle.figures.specs.declared.AfterAdd.{AfterAdd}
use Rattle.figures.specs.Totals.{no_figures_lem, no_report, report_fit_lem, both, reports_pass}
use Rattle.figures.specs.FullList.{figures_of}

pub data Paper : Type 0 where
  refusal : PaperRefusal → Paper
  done : Paper

abbrev pub added_paper : Result Unit Refusal → Paper
added_paper (Err why) = refusal (on_paper why)
added_paper (Ok _) = done

pub record Left : Type 0 where
  pub answer : Paper
  pub report : Report

-- "with the report as it was"
abbrev pub refused : ℕ → Report → Left
refused number r = record { answer = refusal (bare number); report = r }

-- "16, a total that would pass 2^63"
unfoldable pub joined : Report → Report → Left
joined r more = cond (reports_pass r more) (refused 16 r) (record { answer = done; report = both r more })

-- "With k) present, the two rates are reported apart."
unfoldable pub report_of : ℕ → List ℤ → Report
report_of rate xs =
    cond (eqb (samples_in_lem rate) 10)
    (record { at_48 = figures_of (rate_of rate) xs; at_24 = no_figures_lem })
    (record { at_48 = no_figures_lem; at_24 = figures_of (rate_of rate) xs })

-- k): "15, any rate but the two, checked first". Then the smallest first: "unfit, number 1", "5, a recording above 2^63 samples", 16.
unfoldable pub added : Report → ℕ → List ℤ → Left
added r rate xs =
    cond (not (rate_fit rate)) (refused 15 r)
    (cond (not (report_fit_lem r)) (refused 1 r)
    (cond (ltb (2 ^ 63) (length xs)) (refused 5 r)
    (joined r (report_of rate xs))))

-- beyond the request: two reports in one, 1 if either is unfit
unfoldable pub merged : Report → Report → Left
merged r other = cond (not (report_fit_lem r && report_fit_lem other)) (refused 1 r) (joined r other)

-- ---- what the functions promise
abbrev pub NewSays : Report → Type 0
NewSays r = r ≡ no_report

pub record Says (l : Left) (r : AfterAdd) : Type 0 where
  pub answers : added_paper r.answer ≡ l.answer
  pub leaves : r.report ≡ l.report

abbrev pub AddSays : Report → ℕ → List ℤ → AfterAdd → Type 0
AddSays report rate xs r = Says (added report rate xs) r

abbrev pub MergeSays : Report → Report → AfterAdd → Type 0
MergeSays report other r = Says (merged report other) r

abbrev pub JoinSays : Report → Report → AfterAdd → Type 0
JoinSays a b r = Says (joined a b) r

-- Document 02 l) through the library: the code of each call, and the memory that it leaves. Assumes nothing.
use Rattle.std.specs.Prelude.{◌≡◌, not, cond, ◌&&◌, List, ℕ, ℤ, Float}
use Rattle.shaping.specs.Rate.{rate_fit}
use Rattle.figures.specs.declared.Report.{Report}
use Rattle.figures.specs.Totals.{no_report}
use Rattle.figures.specs.Answers.{Paper, refusal, done, Left, added, merged}
use Rattle.library_codes.specs.Codes.{refusal_code}
use Rattle.library_report.specs.Layout.{is_report_lem, report_in_lem, numbers_of_lem, gains_of_lem}

-- ---- the memory of a report
pub record Memory : Type 0 where
  pub numbers : List ℕ
  pub gains : List Float

abbrev pub memory_at : List ℕ → List Float → Memory
memory_at numbers gains = record { numbers = numbers; gains = gains }

-- the report in it, and a report laid out in it
abbrev pub report_at : Memory → Report
report_at m = report_in_lem m.numbers m.gains

abbrev pub laid_out : Report → Memory
laid_out r = memory_at (numbers_of_lem r) (gains_of_lem r)

-- ---- an answer of the report's own call, in numbers
abbrev pub settled_code : Paper → ℕ
settled_code (refusal why) = refusal_code why
settled_code done = 0

-- "with the report as it was"
abbrev pub settled_memory : Paper → Report → Memory → Memory
settled_memory (refusal why) r m = m
settled_memory done r m = laid_out r

-- ---- all that a call leaves
pub record Coded : Type 0 where
  pub code : ℕ
  pub memory : Memory

abbrev pub coded_as : ℕ → Memory → Coded
coded_as code m = record { code = code; memory = m }

abbrev pub settled : Left → Memory → Coded
settled l m = coded_as (settled_code l.answer) (settled_memory l.answer l.report m)

-- k): "15, any rate but the two, checked first"; 1 for numbers that are no report's; then what adding the recording to the report answers
unfoldable pub memory_added : Memory → ℕ → List ℤ → Coded
memory_added m rate xs =
    cond (not (rate_fit rate)) (coded_as 115 m)
    (cond (not (is_report_lem m.numbers)) (coded_as 101 m) (settled (added (report_at m) rate xs) m))

-- 1 where either is no report's
unfoldable pub memory_merged : Memory → Memory → Coded
memory_merged m other =
    cond (not (is_report_lem m.numbers && is_report_lem other.numbers)) (coded_as 101 m) (settled (merged (report_at m) (report_at other)) m)

-- ---- what the exports promise
abbrev pub M17ReportNewSays : ℕ → Memory → Type 0
M17ReportNewSays r m' = coded_as r m' ≡ coded_as 0 (laid_out no_report)

abbrev pub M17ReportAddSays : Memory → ℕ → List ℤ → ℕ → Memory → Type 0
M17ReportAddSays m rate xs r m' = coded_as r m' ≡ memory_added m rate xs

abbrev pub M17ReportMergeSays : Memory → Memory → ℕ → Memory → Type 0
M17ReportMergeSays m other r m' = coded_as r m' ≡ memory_merged m other

-- The theorems' hypotheses met. Assumes nothing.
use mathlib.Core.Path.{◌≡◌, refl}
use mathlib.Core.List.{List, [], ◌∷◌}
use Prim.Native.Nat.{ℕ}
use native.Mathlib.Omega.{arith}
use lib.IntN.{ℤ}
use lib.ListN.{replicate}
use lib.Ieee.{Float}
use Rattle.machine.specs.Runs.{answers, Each}
use Rattle.figures.specs.Totals.{no_report}
use Rattle.figures.specs.Answers.{added, merged}
use Rattle.library_report.specs.Layout.{FullTotals, report_in_lem, numbers_of_lem, gains_of_lem}
use Rattle.library_report.specs.Memory.{Memory, memory_at, laid_out, memory_added, memory_merged, M17ReportAddSays, M17ReportMergeSays}
use Rattle.library_report.specs.Run.{Call, adds, merges, Given, in_memory, by_itself}
use Rattle.library_report.proofs.Back.{report_back}
use Rattle.library_report.proofs.Untouched.{add_refused_untouched, merge_refused_untouched}
use Rattle.library_report.proofs.LaidReport.{laid_answer, add_laid, merge_laid}
use Rattle.library_report.proofs.ReportRun.{report_memory_run}

-- ---- a fresh report
fresh_full : FullTotals no_report
fresh_full = record { first = refl; second = refl }

fresh_back : report_in_lem (numbers_of_lem no_report) (gains_of_lem no_report) ≡ no_report
fresh_back = report_back no_report fresh_full

fresh_added : (rate : ℕ) (xs : List ℤ) → memory_added (laid_out no_report) rate xs ≡ laid_answer (added no_report rate xs)
fresh_added = add_laid no_report fresh_full

fresh_merged : memory_merged (laid_out no_report) (laid_out no_report) ≡ laid_answer (merged no_report no_report)
fresh_merged = merge_laid no_report no_report fresh_full fresh_full

-- a recording of no samples is added, and a fresh report merged
two_calls : List Call
two_calls = adds 48000 [] ∷ merges no_report ∷ []

two_given : Each Given two_calls
unfolding Each two_calls
two_given = (tt, (fresh_full, tt))

run_meets : answers in_memory (laid_out no_report) two_calls ≡ answers by_itself no_report two_calls
run_meets = (report_memory_run two_calls two_given).0

-- ---- memory that is no report's: each flag is 2. The rate is looked at first.
twos : List Float → Memory
twos gains = memory_at (replicate 52 2) gains

module _ (gains : List Float) (xs : List ℤ) where
  no_rate_first : M17ReportAddSays (twos gains) 44100 xs 115 (twos gains)
  unfolding memory_added
  no_rate_first = refl

  no_report_lem : M17ReportAddSays (twos gains) 48000 xs 101 (twos gains)
  unfolding memory_added twos
  no_report_lem = refl

  no_report_kept : twos gains ≡ twos gains
  no_report_kept = add_refused_untouched (twos gains) 48000 xs 101 (twos gains) no_report_lem (omega arith)

  no_report_merged : M17ReportMergeSays (twos gains) (laid_out no_report) 101 (twos gains)
  unfolding memory_merged twos
  no_report_merged = refl

  no_report_merged_kept : twos gains ≡ twos gains
  no_report_merged_kept = merge_refused_untouched (twos gains) (laid_out no_report) 101 (twos gains) no_report_merged (omega arith)

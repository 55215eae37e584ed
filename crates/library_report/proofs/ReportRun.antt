-- Any calls after `m17_report_new` are answered as the report's own calls are, and the memory is the report that these leave. Assumes nothing.
use mathlib.Core.Path.{◌≡◌, refl, ap, ◌∙◌}
use mathlib.Core.List.{List}
use Prim.Native.Nat.{ℕ}
use Rattle.machine.specs.Runs.{Simulates, run, answers, Each}
use Rattle.machine.proofs.Simulation.{runs_related, answers_alike}
use Rattle.figures.specs.declared.Report.{Report}
use Rattle.figures.specs.Totals.{no_report}
use Rattle.library_report.specs.Layout.{FullTotals}
use Rattle.library_report.specs.Memory.{Memory, Coded, laid_out}
use Rattle.library_report.specs.Run.{Call, adds, merges, Given, on_memory, on_report, in_memory, by_itself}
use Rattle.library_report.proofs.LaidReport.{laid_answer, LeftFull, add_laid, merge_laid, added_full, merged_full}

-- the memory is the report, laid out
pub record Holds (m : Memory) (r : Report) : Type 0 where
  pub laid : m ≡ laid_out r
  pub full : FullTotals r

called_laid : (r : Report) → FullTotals r → (c : Call) → Given c → on_memory (laid_out r) c ≡ laid_answer (on_report r c)
called_laid r t (adds rate xs) g = add_laid r t rate xs
called_laid r t (merges other) g = merge_laid r other t g

called_full : (r : Report) → FullTotals r → (c : Call) → LeftFull (on_report r c)
called_full r t (adds rate xs) = added_full r t rate xs
called_full r t (merges other) = merged_full r other t

alike_at : (m : Memory) (r : Report) → Holds m r → (c : Call) → Given c → on_memory m c ≡ laid_answer (on_report r c)
alike_at m r h c g = ap (λ (x : Memory). on_memory x c) h.laid ∙ called_laid r h.full c g

simulates : Simulates Memory Report Call ℕ in_memory by_itself Holds Given
simulates = record {
  alike = λ m r h c g. ap (λ (x : Coded). x.code) (alike_at m r h c g);
  related = λ m r h c g. record { laid = ap (λ (x : Coded). x.memory) (alike_at m r h c g); full = (called_full r h.full c).full };
}

fresh_holds : Holds (laid_out no_report) no_report
fresh_holds = record { laid = refl; full = record { first = refl; second = refl } }

pub report_memory_run : (cs : List Call) → Each Given cs
    → (answers in_memory (laid_out no_report) cs ≡ answers by_itself no_report cs) × (run in_memory (laid_out no_report) cs ≡ laid_out (run by_itself no_report cs))
report_memory_run cs g = (
  answers_alike simulates cs g (laid_out no_report) no_report fresh_holds,
  (runs_related simulates cs g (laid_out no_report) no_report fresh_holds).laid,
)

-- Each call on memory, case by case. Assumes nothing.
use mathlib.Core.Path.{◌≡◌, refl, ap, ◌∙◌}
use mathlib.Core.Bool.{true, false, ◌&&◌}
use mathlib.Core.List.{List}
use Prim.Native.Nat.{ℕ}
use lib.IntN.{ℤ}
use Rattle.shaping.specs.Rate.{rate_fit}
use Rattle.figures.specs.declared.Report.{Report}
use Rattle.figures.specs.declared.AfterAdd.{AfterAdd}
use Rattle.figures.specs.Answers.{Paper, added_paper, Left, Says, added, merged}
use Rattle.library_report.specs.Layout.{is_report_lem}
use Rattle.library_report.specs.Memory.{Memory, coded_as, report_at, settled_code, settled_memory, settled, memory_added, memory_merged}

-- the report's own call, in numbers
settles : (l : Left) (r : AfterAdd) → Says l r → (m : Memory) (code : ℕ) (m' : Memory)
    → (code ≡ settled_code (added_paper r.answer)) × (m' ≡ settled_memory (added_paper r.answer) r.report m) → coded_as code m' ≡ settled l m
settles l r says m code m' left =
    let coded = left.0 ∙ ap settled_code says.answers in
    let laid =
    left.1 ∙ ap (λ (p : Paper). settled_memory p r.report m) says.answers ∙ ap (λ (x : Report). settled_memory l.answer x m) says.leaves in
    λ i. record { code = coded i; memory = laid i }

module _ (m : Memory) (rate : ℕ) (xs : List ℤ) where
  pub no_rate : rate_fit rate ≡ false → coded_as 115 m ≡ memory_added m rate xs
  unfolding memory_added
  no_rate e = rw e refl

  pub no_report_lem : rate_fit rate ≡ true → is_report_lem m.numbers ≡ false → coded_as 101 m ≡ memory_added m rate xs
  unfolding memory_added
  no_report_lem e f = rw (e, f) refl

  pub add_settles : rate_fit rate ≡ true → is_report_lem m.numbers ≡ true → (r : AfterAdd) → Says (added (report_at m) rate xs) r → (code : ℕ) (m' : Memory)
      → (code ≡ settled_code (added_paper r.answer)) × (m' ≡ settled_memory (added_paper r.answer) r.report m) → coded_as code m' ≡ memory_added m rate xs
  unfolding memory_added
  add_settles e f r says code m' left = rw (e, f) (settles (added (report_at m) rate xs) r says m code m' left)

module _ (m other : Memory) where
  pub not_both : (is_report_lem m.numbers && is_report_lem other.numbers) ≡ false → coded_as 101 m ≡ memory_merged m other
  unfolding memory_merged
  not_both e = rw e refl

  pub merge_settles : (is_report_lem m.numbers && is_report_lem other.numbers) ≡ true → (r : AfterAdd) → Says (merged (report_at m) (report_at other)) r
      → (code : ℕ) (m' : Memory) → (code ≡ settled_code (added_paper r.answer)) × (m' ≡ settled_memory (added_paper r.answer) r.report m)
      → coded_as code m' ≡ memory_merged m other
  unfolding memory_merged
  merge_settles e r says code m' left = rw e (settles (merged (report_at m) (report_at other)) r says m code m' left)

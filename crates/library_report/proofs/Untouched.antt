-- A refused call leaves every lent place, whatever numbers were lent. Assumes nothing.
use mathlib.Core.Path.{◌≡◌, refl, ap, ◌∙◌, subst}
use mathlib.Core.Bool.{Bool, true, false, not, cond, ◌&&◌}
use mathlib.Core.List.{List}
use Prim.Native.Nat.{ℕ, ◌≤◌}
use native.Mathlib.Omega.{arith}
use lib.IntN.{ℤ}
use Rattle.shaping.specs.Rate.{rate_fit}
use Rattle.figures.specs.declared.Report.{Report}
use Rattle.figures.specs.Answers.{Paper, refusal, done, added, merged}
use Rattle.library_report.specs.Layout.{is_report_lem}
use Rattle.library_report.specs.Memory.{Memory, Coded, coded_as, settled_code, settled_memory, report_at, settled, memory_added, memory_merged, M17ReportAddSays, M17ReportMergeSays}

abbrev Kept : Memory → Coded → Type 0
Kept m c = 100 ≤ c.code → c.memory ≡ m

kept_by : (b : Bool) (m : Memory) (x y : Coded) → Kept m x → Kept m y → Kept m (cond b x y)
kept_by true m x y p q = p
kept_by false m x y p q = q

kept_settled : (p : Paper) (r : Report) (m : Memory) → 100 ≤ settled_code p → settled_memory p r m ≡ m
kept_settled (refusal why) r m refused = refl
kept_settled done r m refused = absurd (omega (arith, refused))

added_kept : (m : Memory) (rate : ℕ) (xs : List ℤ) → Kept m (memory_added m rate xs)
unfolding memory_added
added_kept m rate xs =
    let l = added (report_at m) rate xs in
    let read = cond (not (is_report_lem m.numbers)) (coded_as 101 m) (settled l m) in
    kept_by (not (rate_fit rate)) m (coded_as 115 m) read (λ refused. refl)
    (kept_by (not (is_report_lem m.numbers)) m (coded_as 101 m) (settled l m) (λ refused. refl) (kept_settled l.answer l.report m))

merged_kept : (m other : Memory) → Kept m (memory_merged m other)
unfolding memory_merged
merged_kept m other =
    let l = merged (report_at m) (report_at other) in
    kept_by (not (is_report_lem m.numbers && is_report_lem other.numbers)) m (coded_as 101 m) (settled l m) (λ refused. refl) (kept_settled l.answer l.report m)

untouched : (m : Memory) (c : Coded) → Kept m c → (r : ℕ) (m' : Memory) → coded_as r m' ≡ c → 100 ≤ r → m' ≡ m
untouched m c keeps r m' e refused =
    ap (λ (x : Coded). x.memory) e ∙ keeps (subst (λ (n : ℕ). 100 ≤ n) (ap (λ (x : Coded). x.code) e) refused)

-- "with the report as it was"
pub add_refused_untouched : (m : Memory) (rate : ℕ) (xs : List ℤ) (r : ℕ) (m' : Memory) → M17ReportAddSays m rate xs r m' → 100 ≤ r → m' ≡ m
add_refused_untouched m rate xs = untouched m (memory_added m rate xs) (added_kept m rate xs)

pub merge_refused_untouched : (m other : Memory) (r : ℕ) (m' : Memory) → M17ReportMergeSays m other r m' → 100 ≤ r → m' ≡ m
merge_refused_untouched m other = untouched m (memory_merged m other) (merged_kept m other)

-- Each promise fixes the code and the memory at exit. That they are met on every input is the functions' own proof. Assumes nothing.
use mathlib.Core.Path.{◌≡◌, ap}
use mathlib.Core.List.{List}
use Prim.Native.Nat.{ℕ}
use lib.IntN.{ℤ}
use Rattle.numbers.proofs.Answer.{same_answer}
use Rattle.library_report.specs.Memory.{Memory, Coded, coded_as, M17ReportNewSays, M17ReportAddSays, M17ReportMergeSays}

both_same : {x : Coded} (r s : ℕ) (m₁ m₂ : Memory) → coded_as r m₁ ≡ x → coded_as s m₂ ≡ x → (r ≡ s) × (m₁ ≡ m₂)
both_same r s m₁ m₂ p q = let e = same_answer p q in (ap (λ (c : Coded). c.code) e, ap (λ (c : Coded). c.memory) e)

pub m17_report_new_only_answer : (r s : ℕ) (m₁ m₂ : Memory) → M17ReportNewSays r m₁ → M17ReportNewSays s m₂ → (r ≡ s) × (m₁ ≡ m₂)
m17_report_new_only_answer = both_same

pub m17_report_add_only_answer : (m : Memory) (rate : ℕ) (xs : List ℤ) (r s : ℕ) (m₁ m₂ : Memory)
    → M17ReportAddSays m rate xs r m₁ → M17ReportAddSays m rate xs s m₂ → (r ≡ s) × (m₁ ≡ m₂)
m17_report_add_only_answer m rate xs = both_same

pub m17_report_merge_only_answer : (m other : Memory) (r s : ℕ) (m₁ m₂ : Memory)
    → M17ReportMergeSays m other r m₁ → M17ReportMergeSays m other s m₂ → (r ≡ s) × (m₁ ≡ m₂)
m17_report_merge_only_answer m other = both_same

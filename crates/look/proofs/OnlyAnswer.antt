-- Each function's promise fixes its answer. That there is one on every input is the function's own proof. Assumes nothing.
use mathlib.Core.Path.{◌≡◌}
use mathlib.Core.Bool.{Bool}
use mathlib.Core.List.{List}
use Prim.Native.Nat.{ℕ}
use lib.Ieee.{Float}
use Rattle.numbers.proofs.Answer.{same_answer}
use Rattle.look.specs.Rows.{IsInRangeSays, IsFaintSays}
use Rattle.look.specs.Marks.{MarksSays}

pub is_in_range_only_answer : (row : List Float) (r s : Bool) → IsInRangeSays row r → IsInRangeSays row s → r ≡ s
is_in_range_only_answer row r s = same_answer

pub is_faint_only_answer : (row : List Float) (r s : Bool) → IsFaintSays row r → IsFaintSays row s → r ≡ s
is_faint_only_answer row r s = same_answer

pub marks_only_answer : (p : ℕ) (row : List Float) (r s : List ℕ) → MarksSays p row r → MarksSays p row s → r ≡ s
marks_only_answer p row r s = same_answer

-- The promise of `walk` leaves one answer. That there is one on every input is the function's own proof. Assumes nothing.
use mathlib.Core.Path.{◌≡◌}
use mathlib.Core.List.{List}
use Prim.Native.Nat.{ℕ}
use lib.Ieee.{Float}
use Rattle.numbers.proofs.Answer.{same_answer}
use Rattle.search.specs.declared.Control.{Control}
use Rattle.quiet.specs.declared.Walked.{Walked}
use Rattle.quiet.specs.Walk.{WalkSays}

pub walk_only_answer : (p : ℕ) (row : List Float) (count : ℕ) (c : Control) (r s : Walked) → WalkSays p row count c r
    → WalkSays p row count c s → r ≡ s
walk_only_answer p row count c r s = same_answer

-- Each function's promise fixes its answer. That there is one on every input is the function's own proof. Assumes nothing.
use mathlib.Core.Path.{◌≡◌}
use mathlib.Core.Bool.{Bool}
use mathlib.Core.List.{List}
use lib.Ieee.{Float}
use Rattle.numbers.proofs.Answer.{same_answer}
use Rattle.bulk.specs.Sums.{TapSumsSays, IsStillSays}

pub tap_sums_only_answer : (table row r s : List Float) → TapSumsSays table row r → TapSumsSays table row s → r ≡ s
tap_sums_only_answer table row r s = same_answer

pub is_still_only_answer : (row : List Float) (r s : Bool) → IsStillSays row r → IsStillSays row s → r ≡ s
is_still_only_answer row r s = same_answer

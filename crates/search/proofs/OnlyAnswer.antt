-- Each function's promise fixes its answer. That there is one on every input is the function's own proof. Assumes nothing.
use mathlib.Core.Path.{◌≡◌}
use mathlib.Core.Bool.{Bool}
use mathlib.Core.List.{List}
use Prim.Native.Nat.{ℕ}
use lib.Ieee.{Float}
use Rattle.numbers.proofs.Answer.{same_answer}
use Rattle.search.specs.declared.Candidate.{Candidate}
use Rattle.search.specs.declared.Control.{Control}
use Rattle.search.specs.declared.Turn.{Turn}
use Rattle.search.specs.declared.Reply.{Reply}
use Rattle.search.specs.Promises.{ControlFitSays, IsHeldSays, TurnOfSays, SearchedSays, RepliedSays}

pub control_fit_only_answer : (p : ℕ) (c : Control) (r s : Bool) → ControlFitSays p c r → ControlFitSays p c s → r ≡ s
control_fit_only_answer p c r s = same_answer

pub is_held_only_answer : (candidate : Candidate) (r s : Bool) → IsHeldSays candidate r → IsHeldSays candidate s → r ≡ s
is_held_only_answer candidate r s = same_answer

pub turn_of_only_answer : (c : Control) (n : ℕ) (r s : Turn) → TurnOfSays c n r → TurnOfSays c n s → r ≡ s
turn_of_only_answer c n r s = same_answer

pub searched_only_answer : (p : ℕ) (c : Control) (vs : List Float) (r s : Control) → SearchedSays p c vs r → SearchedSays p c vs s → r ≡ s
searched_only_answer p c vs r s = same_answer

pub replied_only_answer : (p : ℕ) (c : Control) (reply : Reply) (vs : List Float) (r s : Control) → RepliedSays p c reply vs r → RepliedSays p c reply vs s → r ≡ s
replied_only_answer p c reply vs r s = same_answer

-- The function's promise fixes its answer. That there is one on every input is the function's own proof. Assumes nothing.
use mathlib.Core.Path.{◌≡◌}
use mathlib.Core.Bool.{Bool}
use Rattle.numbers.proofs.Answer.{same_answer}
use Rattle.house.specs.declared.Text.{Text}
use Rattle.telling.specs.Texts.{TellSays}

pub tell_only_answer : (text : Text) (r s : Bool) → TellSays text r → TellSays text s → r ≡ s
tell_only_answer text r s = same_answer

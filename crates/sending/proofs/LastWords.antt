-- Where read, write and call went well, what `last_words` says of a call is what the theorems say of it: the words of the line at hand. Assumes nothing.
use mathlib.Core.Path.{◌≡◌, ◌∙◌}
use mathlib.Core.Bool.{true}
use Rattle.modulator.specs.Paper.{done}
use Rattle.sending.specs.declared.AfterPart.{AfterPart}
use Rattle.sending.specs.Calls.{Left, opened, words, said_of, Says, OpenSays}
use Rattle.sending.specs.Run.{told_of}
use Rattle.sending.proofs.SendRun.{open_done}

pub said_done : (d : Left) (r : AfterPart) → Says d r → d.answer ≡ done → said_of r true true ≡ words (told_of d)
unfolding said_of
said_done d r says e = rw (says.answers ∙ e, says.tells, says.leaves)

-- of the first call
open_said : (r : AfterPart) → OpenSays r → said_of r true true ≡ words (told_of opened)
open_said r says = said_done opened r says open_done

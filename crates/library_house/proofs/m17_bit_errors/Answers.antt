-- `m17_bit_errors` meets its contract. Assumes nothing.
use mathlib.Core.Path.{ap, ◌∙◌}
use borrow.Author.Rules.{rules}
use Rattle.library_house.specs.Exports.{errors_code}
use Rattle.library_house.proofs.m17_bit_errors.Goals as goal

pub returns : goal.returns
returns c =
    record { answers = c.code_errors.ensures ∙ ap errors_code c.bit_errors-answer.ensures; leaves = rw c.bit_errors-answer.ensures at c.tell_errors-now.ensures }

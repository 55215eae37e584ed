-- `Sending::turn` meets its contract: each return is one case of the definition. Assumes nothing.
use mathlib.Core.Path.{◌≡◌, sym, ap, ◌∙◌}
use lib.ListN.{length}
use borrow.Author.Rules.{rules}
use Rattle.modulator.specs.Paper.{done_paper}
use Rattle.sending.proofs.Parts.{cut}
use Rattle.sending.proofs.Turns.{told_fit, told_unfit, turn_done, turn_refused}
use Rattle.sending.proofs.Sending.turn.Goals as goal

pub returns-in-Err : goal.returns-in-Err
returns-in-Err c =
    let a = c.args in
    let told = sym c.test_record.ensures ∙ ap done_paper c.in-Err.is in
    turn_refused a.self a.bytes a.n (told_unfit a.self.modulator _ told) _ (sym told) c.write_nothing.result c.write_nothing.ensures

pub returns : goal.returns
returns c =
    let a = c.args in
    let fit = told_fit a.self.modulator (sym c.test_record.ensures ∙ ap done_paper c.in_default.is) in
    let places : length a.bytes ≡ 97 = search rules in
    let moved = rw (cut a.bytes a.n c.min.result places c.min.ensures) at c.move_on-after.ensures in
    turn_done a.self a.bytes a.n places fit c.move_on-after.result moved _ c.count_taken-taken.ensures

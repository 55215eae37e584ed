-- `output::m17_sender_update` meets its contract. Assumes nothing.
use mathlib.Core.Path.{refl, ap, ◌∙◌}
use Rattle.modulator.specs.declared.SoftModulator.{SoftModulator}
use Rattle.modulator_run.specs.Rules.{update}
use Rattle.modulator_run.specs.Run.{left_at}
use Rattle.library_sender.specs.Layout.{sender_in, numbers_of_lem}
use Rattle.library_sender.proofs.Promises.{refused, moved, no_sender, answered}
use Rattle.library_sender.proofs.LeftPlaces.{update_bare, update_kept, same_laid, done_tells}
use Rattle.library_sender.proofs.output.m17_sender_update.Goals as goal
use Rattle.library_sender.proofs.output.m17_sender_update.Goals.{Start}

-- the record in the memory
abbrev record-at : Start → SoftModulator
record-at s = sender_in s.args.store.now s.args.window.now s.args.numbers.now

pub returns-then-wrong-ne0 : goal.returns-then-wrong-ne0
returns-then-wrong-ne0 c = no_sender _ _ _ c.check_numbers-wrong.ensures c.if-wrong-ne0.true

pub returns-then-code-ge100 : goal.returns-then-code-ge100
unfolding left_at
returns-then-code-ge100 c =
    let says = rw c.read_record-record.ensures at c.update_output_buffer-after.ensures in
    refused _ _ _ (answered _ _ _ c.check_numbers-wrong.ensures c.if-wrong-ne0.false _ says.answers _ c.code_done-code.ensures) c.if-code-ge100.true _ refl

pub returns : goal.returns
unfolding left_at
returns c =
    let says = rw c.read_record-record.ensures at c.update_output_buffer-after.ensures in
    moved _ _ _ (answered _ _ _ c.check_numbers-wrong.ensures c.if-wrong-ne0.false _ says.answers _ c.code_done-code.ensures) c.if-code-ge100.false
    _ (update_bare _ _ _ _) _ (done_tells c.update_output_buffer-after.result.answer _ says.answers)
    _ (same_laid (record-at c.before.before.before.before.before.before.before.before.before) (update _ _ _) (update_kept _ _ _ _) _ (c.write_numbers.ensures ∙ ap numbers_of_lem says.leaves))

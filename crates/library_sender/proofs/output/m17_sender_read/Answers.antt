-- `output::m17_sender_read` meets its contract. Assumes nothing.
use mathlib.Core.Path.{ap, ◌∙◌}
use borrow.Author.Rules.{rules}
use Rattle.modulator.specs.declared.SoftModulator.{SoftModulator}
use Rattle.modulator.specs.Paper.{Paper}
use Rattle.modulator_run.specs.Rules.{read}
use Rattle.modulator_run.specs.Run.{left_at}
use Rattle.library_sender.specs.Layout.{sender_in, numbers_of_lem}
use Rattle.library_sender.specs.Memory.{paper_code, tells}
use Rattle.library_sender.proofs.Promises.{refused, moved, no_sender, answered}
use Rattle.library_sender.proofs.LeftPlaces.{refused_kept, read_kept, same_laid}
use Rattle.library_sender.proofs.output.m17_sender_read.Goals as goal
use Rattle.library_sender.proofs.output.m17_sender_read.Goals.{Start}

-- the record in the memory
abbrev record-at : Start → SoftModulator
record-at s = sender_in s.args.store.now s.args.window.now s.args.numbers.now

pub returns-then-wrong-ne0 : goal.returns-then-wrong-ne0
returns-then-wrong-ne0 c = no_sender _ _ _ c.check_numbers-wrong.ensures c.if-wrong-ne0.true

pub returns-then-code-ge100 : goal.returns-then-code-ge100
unfolding left_at
returns-then-code-ge100 c =
    let says = rw c.read_record-record.ensures at c.read_output_samples-after.ensures in
    let coded = c.code_read-code.ensures ∙ ap paper_code says.answers in
    refused _ _ _ (answered _ _ _ c.check_numbers-wrong.ensures c.if-wrong-ne0.false _ says.answers _ c.code_read-code.ensures) c.if-code-ge100.true
    _ (says.writes ∙ (refused_kept (record-at c.before.before.before.before.before.before.before.before) (read _) (rw coded at c.if-code-ge100.true)).room_kept)

pub returns : goal.returns
unfolding left_at
returns c =
    let says = rw c.read_record-record.ensures at c.read_output_samples-after.ensures in
    moved _ _ _ (answered _ _ _ c.check_numbers-wrong.ensures c.if-wrong-ne0.false _ says.answers _ c.code_read-code.ensures) c.if-code-ge100.false
    _ says.writes _ (c.tell_read-now.ensures ∙ ap (λ (a : Paper). tells a c.args.told.now) says.answers)
    _ (same_laid (record-at c.before.before.before.before.before.before.before.before.before.before.before.before.before) (read _) (read_kept _ _) _ (c.write_numbers.ensures ∙ ap numbers_of_lem says.leaves))

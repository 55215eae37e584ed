-- `frames::provide` meets its contract. Assumes nothing.
use mathlib.Core.Path.{refl, ap, ◌∙◌}
use Rattle.modulator.specs.Paper.{done_paper}
use Rattle.modulator_run.specs.Run.{left_at}
use Rattle.library_sender.specs.Memory.{laid_out}
use Rattle.library_sender.proofs.Promises.{refused, moved, no_sender, answered}
use Rattle.library_sender.proofs.LeftPlaces.{provide_bare, done_tells}
use Rattle.library_sender.proofs.frames.provide.Goals as goal

pub returns-then-wrong-ne0 : goal.returns-then-wrong-ne0
returns-then-wrong-ne0 c = no_sender _ _ _ c.check_numbers-wrong.ensures c.if-wrong-ne0.true

pub returns-then-code-ge100 : goal.returns-then-code-ge100
unfolding left_at
returns-then-code-ge100 c =
    let says = rw c.read_record-record.ensures at c.provide_next_frame-after.ensures in
    refused _ _ _ (answered _ _ _ c.check_numbers-wrong.ensures c.if-wrong-ne0.false (done_paper c.provide_next_frame-after.result.answer) says.answers _ c.code_done-code.ensures) c.if-code-ge100.true _ refl

pub returns : goal.returns
unfolding left_at
returns c =
    let says = rw c.read_record-record.ensures at c.provide_next_frame-after.ensures in
    moved _ _ _ (answered _ _ _ c.check_numbers-wrong.ensures c.if-wrong-ne0.false (done_paper c.provide_next_frame-after.result.answer) says.answers _ c.code_done-code.ensures) c.if-code-ge100.false
    _ (provide_bare _ _ _) _ (done_tells c.provide_next_frame-after.result.answer _ says.answers) _ (c.lay_out.ensures ∙ ap laid_out says.leaves)

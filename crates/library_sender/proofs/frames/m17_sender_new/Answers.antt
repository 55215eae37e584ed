-- `frames::m17_sender_new` meets its contract. Assumes nothing.
use mathlib.Core.Path.{refl, ap, ◌∙◌}
use borrow.Author.Tests.{le-leb, lt-leb}
use Rattle.library_sender.specs.Memory.{laid_out, paper_code}
use Rattle.library_sender.proofs.frames.m17_sender_new.Goals as goal

pub returns-then-code-ge100 : goal.returns-then-code-ge100
returns-then-code-ge100 c =
    record { answers = c.code_done-code.ensures ∙ ap paper_code c.new-after.ensures.answers; leaves = rw (le-leb 100 _ c.if-code-ge100.true) refl }

pub returns : goal.returns
returns c =
    let n = c.new-after.ensures in
    record { answers = c.code_done-code.ensures ∙ ap paper_code n.answers; leaves = rw (lt-leb 100 _ c.if-code-ge100.false) (c.lay_out.ensures ∙ ap laid_out n.leaves) }

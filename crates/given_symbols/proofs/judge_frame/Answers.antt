-- `judge_frame` meets its contract: the count, then the symbols, then the burst. Assumes nothing.
use mathlib.Core.Path.{ap, ◌∙◌}
use borrow.Author.Tests.{eq-eqb, ne_eqb}
use lib.ListN.{length}
use Rattle.given_symbols.specs.Offender.{verdict_paper, judged_as}
use Rattle.given_symbols.proofs.Judged.{verdict_and}
use Rattle.given_symbols.proofs.judge_frame.Goals as goal

pub returns-then-symbols-ne-FRAME : goal.returns-then-symbols-ne-FRAME
unfolding judged_as
returns-then-symbols-ne-FRAME c = rw (ne_eqb (length c.args.symbols.now) 192 c.if-symbols-ne-FRAME.true)

pub returns : goal.returns
unfolding judged_as
returns c =
    let count = c.if-symbols-ne-FRAME.false in
    let told = ap verdict_paper c.and.ensures ∙ verdict_and c.first_offender-offender.result c.judge_head-head.result in
    rw (eq-eqb (length c.args.symbols.now) 192 count) (rw (c.first_offender-offender.ensures, c.judge_head-head.ensures, count) at told)

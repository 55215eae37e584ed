-- `first_offender` meets its contract. The loop's invariant: what the symbols passed make of the frame. Assumes nothing.
use native.Mathlib.Numerals.{add-one}
use borrow.Author.Rules.{rules}
use Rattle.given_symbols.specs.Offender.{judged_below}
use Rattle.given_symbols.proofs.Judged.{verdict_and}
use Rattle.given_symbols.proofs.first_offender.Goals as goal

pub loop-place-init : goal.loop-place-init
unfolding judged_below
loop-place-init c = search rules

pub loop-place-preserved : goal.loop-place-preserved
unfolding judged_below
loop-place-preserved c = rw (add-one, c.and-found.ensures, verdict_and _ _, c.loop-place.invariant, c.judge.ensures)

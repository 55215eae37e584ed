-- `first_offender` meets its contract. The loop's invariant: what the symbols passed make of the frame. Assumes nothing.
use mathlib.Core.Path.{◌≡◌}
use Rattle.given_symbols.specs.Offender.{verdict_paper, judged_below}
use Rattle.given_symbols.proofs.first_offender.Given as goal

abbrev pub invariant-loop-place : goal.invariant-loop-place
invariant-loop-place l = verdict_paper l.found ≡ judged_below l.place l.symbols

-- `text::first_bad` meets its contract: the lines before the place are good. Assumes nothing.
use mathlib.Core.Path.{◌≡◌}
use Prim.Native.Nat.{◌+◌, ◌*◌}
use lib.ListN.{drop}
use Rattle.sending.specs.Text.{lines_of, first_bad_lem, bad_line_lem}
use Rattle.supplier.proofs.text.first_bad.Given as goal

abbrev pub invariant-loop-before : goal.invariant-loop-before
invariant-loop-before l = bad_line_lem l.lines ≡ first_bad_lem (l.before + 1) (lines_of (drop (97 * l.before) l.lines))

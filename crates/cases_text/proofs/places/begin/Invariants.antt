-- What `begin` keeps: after i parts the place is that of part i, and lies within the line. Assumes nothing.
use Rattle.std.proofs.Common.{◌≡◌, ◌≤◌, length}
use Rattle.cases_text.specs.Places.{begin_of}
use Rattle.cases_text.proofs.places.begin.Given as goal

abbrev pub invariant-loop-i : goal.invariant-loop-i
invariant-loop-i l = (l.at ≤ length l.line) × (l.at ≡ begin_of l.letter l.line l._i)

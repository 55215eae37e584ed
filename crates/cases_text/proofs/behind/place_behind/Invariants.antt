-- What `place_behind` keeps: after k words the place is that behind the last of them that is the name. Assumes nothing.
use Rattle.std.proofs.Common.{length, ◌-◌, ◌≡◌, ◌≤◌}
use Rattle.cases_text.specs.Places.{begin_of}
use Rattle.cases_text.specs.Behind.{behind_to}
use Rattle.cases_text.proofs.behind.place_behind.Given as goal

abbrev pub invariant-loop-at : goal.invariant-loop-at
invariant-loop-at l = (l.at ≤ length l.words) × (l.k ≤ l.at) × (l.at ≡ begin_of 32 l.words l.k) × (l.place ≡ behind_to l.words l.name l.k)

abbrev pub decreases-loop-at : goal.decreases-loop-at
decreases-loop-at l = length l.words - l.at

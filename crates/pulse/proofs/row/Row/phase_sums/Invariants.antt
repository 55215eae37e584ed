-- `phase_sums` meets its contract: after q turns each sum has its first q products, and
-- within a turn the first k sums have one more. Assumes nothing.
use lib.Ieee.{binary32}
use Rattle.numbers.proofs.Lanes.{Lanes}
use Rattle.shaping.specs.Rate.{rate_at}
use Rattle.pulse.specs.Phases.{product}
use Rattle.pulse.proofs.row.Row.phase_sums.Given as goal

abbrev pub invariant-loop-k : goal.invariant-loop-k
invariant-loop-k l = Lanes binary32 48 (product (rate_at l.self.p) l.self.pulses l.j) l.q l.k l.sums

abbrev pub invariant-loop-q : goal.invariant-loop-q
invariant-loop-q l = Lanes binary32 48 (product (rate_at l.self.p) l.self.pulses l.j) l.q 0 l.sums
